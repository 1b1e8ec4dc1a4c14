-- The state of each block is that after as many rounds as are undone, with no row shifted, and the constant
-- of the S-box added.
use Rattle.std.proofs.Common.{◌≡◌, ℕ, ◌+◌, ◌%◌, List}
use Rattle.byte_words.specs.Bytes.{AreBytes}
use Rattle.aes_core.specs.UnshiftedRows.{rotated_rows}
use Rattle.aes_core.specs.Planes.{planes, AllBlocks}
use Rattle.aes_core.specs.KeyPlanes.{key_planes}
use Rattle.aes_core.specs.MiddleRounds.{state_map, plus_constant, inverse_rounds_from}
use Rattle.aes_core.proofs.eight.decrypt_planes.Given as goal

abbrev pub invariant-rounds : goal.invariant-rounds
invariant-rounds l = (w : List ℕ) (s : ℕ → List ℕ) → AreBytes w → AllBlocks s → l.fn.keys ≡ key_planes w → l.fn.blocks ≡ planes s
    → l.state ≡ planes (λ b. state_map plus_constant (rotated_rows (l.done % 4 + 2) (inverse_rounds_from w (rotated_rows 2 (state_map plus_constant (s b))) l.done)))
