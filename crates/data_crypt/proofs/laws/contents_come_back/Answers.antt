-- Block by block.
use Rattle.data_crypt.proofs.ContentsLemmas.{read_contents-stored_blocks}
use Rattle.data_crypt.proofs.laws.contents_come_back.Goals as goal

pub returns : goal.returns
returns c = read_contents-stored_blocks
