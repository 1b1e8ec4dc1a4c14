use Rattle.tree_image.proofs.ImageLemmas as lemmas
use Rattle.tree_image.proofs.laws.images_agree.Goals as goal

pub returns : goal.returns
returns c = lemmas.images_agree
