-- The counter is the number of runs that are done.
use Rattle.std.proofs.Common.{◌≡◌, [], replicate}
use Rattle.std.specs.Fn.{iterate}
use Rattle.hmac_kdf.specs.Hkdf.{hkdf_sha512}
use Rattle.fsc_speed.specs.declared.hashes.TheConstants.{INFO}
use Rattle.fsc_speed.proofs.hashes.hkdf_64.Given as goal

abbrev pub invariant-loop : goal.invariant-loop
invariant-loop l = l.key ≡ iterate (λ key. hkdf_sha512 [] key INFO 64) l.counter (replicate 64 0)
