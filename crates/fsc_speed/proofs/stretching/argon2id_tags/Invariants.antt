-- The counter is the number of runs that are done.
use Rattle.std.proofs.Common.{◌≡◌, [], replicate}
use Rattle.std.specs.Fn.{iterate}
use Rattle.argon_kdf.specs.Argon2id.{argon2id_tag}
use Rattle.fsc_speed.proofs.stretching.argon2id_tags.Given as goal

abbrev pub invariant-loop : goal.invariant-loop
invariant-loop g l = l.tag ≡ iterate (λ tag. argon2id_tag l.costs tag (replicate 16 0xa5) [] []) l.counter (replicate 32 0)
