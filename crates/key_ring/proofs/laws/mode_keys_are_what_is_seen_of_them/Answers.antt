use Rattle.key_ring.proofs.laws.mode_keys_are_what_is_seen_of_them.Goals as goal

pub returns : goal.returns
returns c = λ a b contents names i. record { contents = contents i; names = names i }
