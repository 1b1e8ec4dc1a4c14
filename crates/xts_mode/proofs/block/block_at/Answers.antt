-- The part of the unit is its block.
use Rattle.std.proofs.Common.{arith, ◌∙◌}
use Rattle.byte_words.proofs.BlockLemmas.{between-block_at}
use Rattle.xts_mode.proofs.block.block_at.Goals as goal

pub returns : goal.returns
returns c = c.copy_from_slice.ensures.after ∙ between-block_at 16 c.args.unit.now c.args.j _ _ (omega arith) (omega arith)
