use Rattle.std.proofs.Common.{ap, ◌∙◌, subst}
use Rattle.image_lines.specs.ImageText.{image_text}
use Rattle.image_lines.specs.Rules.{IsImage}
use Rattle.image_lines.proofs.NodeLemmas.{is_image, text_is}
use Rattle.image_lines.proofs.image.Image.text.Goals as goal

pub returns-clause-text : goal.returns-clause-text
returns-clause-text c = text_is c.self.inside.text.now c.self.inside.places.items c.self.invariant.1 ∙ ap image_text c.self.view_is

pub returns-clause-image : goal.returns-clause-image
returns-clause-image c = subst IsImage c.self.view_is (is_image c.self.inside.text.now c.self.inside.places.items c.self.invariant.1)
