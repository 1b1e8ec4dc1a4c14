use Rattle.image_lines.proofs.ImageLaws.{images_are_texts}
use Rattle.image_lines.proofs.laws.images_are_texts.Goals as goal

pub returns : goal.returns
returns c = images_are_texts
