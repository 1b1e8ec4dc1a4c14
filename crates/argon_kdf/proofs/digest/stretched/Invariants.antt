use Rattle.std.proofs.Common.{◌≡◌, ℕ, List, ◌*◌, length, take}
use Rattle.argon_kdf.specs.LongDigest.{chained_digest, first_halves}
use Rattle.argon_kdf.proofs.digest.stretched.Given as goal

abbrev pub invariant-halves : goal.invariant-halves
invariant-halves l = record {
  long : length l.bytes ≡ 1024;
  full : length l.value ≡ 64;
  chained : (m : List ℕ) → l.fn.value ≡ chained_digest 1024 m 0 → l.value ≡ chained_digest 1024 m l.i;
  written : (m : List ℕ) → l.fn.value ≡ chained_digest 1024 m 0
      → take (32 * l.i) l.bytes ≡ first_halves 1024 m l.i;
}
