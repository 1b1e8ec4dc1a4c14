-- Block by block.
use Rattle.xts_mode.proofs.UnitLemmas.{decrypted-encrypted_unit, encrypted-decrypted_unit, length-xts_encrypted, length-xts_decrypted, xts_encrypted-IsUnit, xts_decrypted-IsUnit}
use Rattle.xts_mode.proofs.decryption_undoes_encryption.Goals as goal

pub returns-clause-decrypted : goal.returns-clause-decrypted
returns-clause-decrypted c = decrypted-encrypted_unit

pub returns-clause-encrypted : goal.returns-clause-encrypted
returns-clause-encrypted c = encrypted-decrypted_unit

pub returns-clause-length : goal.returns-clause-length
returns-clause-length c = λ key index unit even. (length-xts_encrypted key index unit even, length-xts_decrypted key index unit even)

pub returns-clause-units : goal.returns-clause-units
returns-clause-units c = λ key index unit bytes is. (xts_encrypted-IsUnit key index unit bytes is, xts_decrypted-IsUnit key index unit bytes is)
