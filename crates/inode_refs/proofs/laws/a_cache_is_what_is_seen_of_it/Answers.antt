use Rattle.inode_refs.proofs.laws.a_cache_is_what_is_seen_of_it.Goals as goal

pub returns : goal.returns
returns c = λ a b keys pins users i. record { keys = keys i; pins = pins i; users = users i }
