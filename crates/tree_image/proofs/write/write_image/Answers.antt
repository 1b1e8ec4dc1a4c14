use Rattle.std.proofs.Common.{rules}
use Rattle.image_lines.specs.ImageText.{image_text}
use Rattle.tree_image.proofs.write.write_image.Goals as goal

pub returns : goal.returns
unfolding image_text
returns c = search rules
