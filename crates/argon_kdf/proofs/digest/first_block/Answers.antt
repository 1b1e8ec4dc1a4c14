use Rattle.std.proofs.Common.{◌∙◌, ap}
use Rattle.argon_kdf.specs.Blocks.{block_of}
use Rattle.argon_kdf.specs.Filling.{first_block}
use Rattle.argon_kdf.proofs.digest.first_block.Goals as goal

pub returns : goal.returns
unfolding first_block
returns c = c.from_bytes.ensures ∙ ap block_of (c.stretched.ensures _ c.first_value.ensures)
