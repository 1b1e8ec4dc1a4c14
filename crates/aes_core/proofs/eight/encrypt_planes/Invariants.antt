-- The state of each block is that after as many rounds as are done, with no row shifted.
use Rattle.std.proofs.Common.{◌≡◌, ℕ, ◌-◌, ◌%◌, List}
use Rattle.byte_words.specs.Bytes.{AreBytes}
use Rattle.aes_core.specs.UnshiftedRows.{rotated_rows}
use Rattle.aes_core.specs.Planes.{planes, AllBlocks}
use Rattle.aes_core.specs.KeyPlanes.{key_planes}
use Rattle.aes_core.specs.MiddleRounds.{rounds_from}
use Rattle.aes_core.proofs.eight.encrypt_planes.Given as goal

abbrev pub invariant-rounds : goal.invariant-rounds
invariant-rounds l = (w : List ℕ) (s : ℕ → List ℕ) → AreBytes w → AllBlocks s → l.fn.keys ≡ key_planes w → l.fn.blocks ≡ planes s
    → l.state ≡ planes (λ b. rotated_rows (4 - l.done % 4) (rounds_from w (s b) l.done))
