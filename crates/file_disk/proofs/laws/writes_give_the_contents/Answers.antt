-- The touched and new blocks are stored again, and the size is that of the contents.
use Rattle.file_disk.proofs.BodyLemmas.{writes_give}
use Rattle.file_disk.proofs.laws.writes_give_the_contents.Goals as goal

pub returns : goal.returns
returns c = writes_give
