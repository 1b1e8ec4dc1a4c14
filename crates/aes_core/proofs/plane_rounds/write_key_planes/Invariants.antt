-- The planes of the keys before n are written.
use Rattle.std.proofs.Common.{◌≡◌, ◌+◌, ◌*◌, ◌%◌, ◌++◌, drop}
use Rattle.byte_words.specs.Blocks.{first_blocks}
use Rattle.aes_core.specs.Lanes.{round_key}
use Rattle.aes_core.specs.KeyPlanes.{common_key, planes_of_key}
use Rattle.aes_core.proofs.plane_rounds.write_key_planes.Given as goal

abbrev pub invariant-rounds : goal.invariant-rounds
invariant-rounds l = l.planes ≡ first_blocks (λ n. planes_of_key (common_key (n % 4) (round_key l.fn.keys (n + 1)))) l.n ++ drop (128 * l.n) l.fn.planes
