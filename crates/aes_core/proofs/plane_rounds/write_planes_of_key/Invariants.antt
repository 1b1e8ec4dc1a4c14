-- The planes before this bit are written.
use Rattle.std.proofs.Common.{◌≡◌, ◌*◌, ◌++◌, drop}
use Rattle.std.specs.Int.{bit_at}
use Rattle.byte_words.specs.Blocks.{first_blocks}
use Rattle.aes_core.specs.Planes.{plane}
use Rattle.aes_core.proofs.plane_rounds.write_planes_of_key.Given as goal

abbrev pub invariant-bits : goal.invariant-bits
invariant-bits l = l.part ≡ first_blocks (λ k. plane (λ x. bit_at x k) (λ _. l.fn.key)) l.bit ++ drop (16 * l.bit) l.fn.part
