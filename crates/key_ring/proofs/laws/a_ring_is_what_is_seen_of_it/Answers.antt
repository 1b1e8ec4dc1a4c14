use Rattle.key_ring.proofs.laws.a_ring_is_what_is_seen_of_it.Goals as goal

pub returns : goal.returns
returns c = λ a b claims secrets i. record { claims = claims i; secrets = secrets i }
