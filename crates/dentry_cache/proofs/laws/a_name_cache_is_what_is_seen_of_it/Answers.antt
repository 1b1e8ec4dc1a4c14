use Rattle.dentry_cache.proofs.laws.a_name_cache_is_what_is_seen_of_it.Goals as goal

pub returns : goal.returns
returns c = λ a b pairs refused i. record { pairs = pairs i; refused = refused i }
