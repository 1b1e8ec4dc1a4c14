-- Block by block, and then byte by byte.
use Rattle.data_crypt.proofs.ReadLemmas.{content-stored}
use Rattle.data_crypt.proofs.laws.parts_are_read.Goals as goal

pub returns : goal.returns
returns c = λ seal contents from count skip part key is within ends covered. content-stored seal contents from count key is within skip part ends covered
