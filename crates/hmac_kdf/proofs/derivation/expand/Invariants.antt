use Rattle.std.proofs.Common.{ℕ, ◌≤◌, List}
use Rattle.hmac_kdf.specs.Hmac.{hash_of, block_key, xor_each}
use Rattle.hmac_kdf.proofs.Expansion.{IsExpanding}
use Rattle.hmac_kdf.proofs.derivation.expand.Given as goal

abbrev pub invariant-pieces : goal.invariant-pieces
invariant-pieces g l = let h = hash_of g.H.BlockHash.digest_bytes g.row.B g.row.N in record {
  filled : l.filled ≤ g.row.N;
  expands : (key : List ℕ) → g.H.Digest.holds l.keyed.inner (xor_each 0x36 (block_key h key))
      → g.H.Digest.holds l.keyed.outer (xor_each 0x5c (block_key h key))
      → IsExpanding h key l.info l.fn.out l.out l.block l.filled l.i g.row.N;
}
