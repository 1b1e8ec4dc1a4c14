-- Round by round.
use Rattle.aes_core.proofs.RoundLemmas.{decrypted-encrypted, encrypted-decrypted, encrypted_block-IsBlock, decrypted_block-IsBlock, length-encrypted_block, length-decrypted_block}
use Rattle.aes_core.proofs.decryption_undoes_encryption.Goals as goal

pub returns-clause-decrypted : goal.returns-clause-decrypted
returns-clause-decrypted c = decrypted-encrypted

pub returns-clause-encrypted : goal.returns-clause-encrypted
returns-clause-encrypted c = encrypted-decrypted

pub returns-clause-encrypted_block : goal.returns-clause-encrypted_block
returns-clause-encrypted_block c = encrypted_block-IsBlock

pub returns-clause-decrypted_block : goal.returns-clause-decrypted_block
returns-clause-decrypted_block c = decrypted_block-IsBlock

pub returns-clause-sixteen : goal.returns-clause-sixteen
returns-clause-sixteen c = λ key block. (length-encrypted_block key block, length-decrypted_block key block)
