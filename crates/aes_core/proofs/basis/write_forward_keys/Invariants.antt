-- The keys before n are written.
use Rattle.std.proofs.Common.{◌≡◌, ◌+◌, ◌*◌, ◌%◌, ◌++◌, drop}
use Rattle.byte_words.specs.Blocks.{first_blocks}
use Rattle.aes_core.specs.Lanes.{round_key}
use Rattle.aes_core.specs.Basis.{forward_key}
use Rattle.aes_core.proofs.basis.write_forward_keys.Given as goal

abbrev pub invariant-rounds : goal.invariant-rounds
invariant-rounds l = l.prepared ≡ first_blocks (λ n. forward_key (n % 4) (round_key l.fn.keys (n + 1))) l.n ++ drop (16 * l.n) l.fn.prepared
