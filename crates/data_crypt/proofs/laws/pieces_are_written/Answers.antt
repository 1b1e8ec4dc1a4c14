-- Block by block.
use Rattle.data_crypt.proofs.WriteLemmas.{plain_block-with_bytes}
use Rattle.data_crypt.proofs.ChainLemmas.{stored_written}
use Rattle.data_crypt.proofs.laws.pieces_are_written.Goals as goal

pub returns-clause-plain : goal.returns-clause-plain
returns-clause-plain c = plain_block-with_bytes

pub returns-clause-stored : goal.returns-clause-stored
returns-clause-stored c = stored_written
