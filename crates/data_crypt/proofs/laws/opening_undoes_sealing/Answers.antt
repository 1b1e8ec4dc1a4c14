-- Unit by unit.
use Rattle.data_crypt.proofs.UnitLemmas.{opened-sealed, sealed-opened, sealed_block-IsContentsBlock, opened_block-IsContentsBlock}
use Rattle.data_crypt.proofs.laws.opening_undoes_sealing.Goals as goal

pub returns-clause-opened : goal.returns-clause-opened
returns-clause-opened c = opened-sealed

pub returns-clause-sealed : goal.returns-clause-sealed
returns-clause-sealed c = sealed-opened

pub returns-clause-blocks : goal.returns-clause-blocks
returns-clause-blocks c = λ key unit first block bytes is. (sealed_block-IsContentsBlock key unit first block bytes is, opened_block-IsContentsBlock key unit first block bytes is)
