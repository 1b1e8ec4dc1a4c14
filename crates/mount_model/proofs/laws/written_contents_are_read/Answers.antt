use Rattle.mount_model.proofs.ContentLemmas.{written_is_read}
use Rattle.mount_model.proofs.laws.written_contents_are_read.Goals as goal

pub returns : goal.returns
returns c = written_is_read
