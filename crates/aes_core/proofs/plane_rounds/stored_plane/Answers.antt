-- The part that is loaded is the block.
use Rattle.std.proofs.Common.{arith}
use Rattle.aes_core.proofs.PreparedKeys.{key_read}
use Rattle.aes_core.proofs.plane_rounds.stored_plane.Goals as goal

pub returns : goal.returns
returns c = key_read c.args.keys.now c.args.n _ (omega arith)
