use Rattle.std.proofs.Common.{◌≡◌, ℕ, List, ◌++◌, ◌+◌, ◌*◌, take}
use Rattle.blake2_core.specs.Hasher.{Follows}
use Rattle.blake2_core.proofs.Blake2b.absorb.Given as goal

abbrev pub invariant-turns : goal.invariant-turns
invariant-turns l = record {
  empty : l.self.used ≡ 0;
  same_size : l.self.size ≡ l.fn.self.size;
  added : (m : List ℕ) (n : ℕ) → Follows l.fn.self m n → Follows l.self (m ++ take (128 * l.i) l.bytes) (n + l.i);
}
