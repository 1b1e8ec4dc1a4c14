-- AES-256 is a cipher of blocks that decryption undoes.
use Rattle.std.proofs.Common.{ℕ, List}
use Rattle.aes_core.specs.Aes.{encrypted_block, decrypted_block}
use Rattle.byte_words.specs.Bytes.{AreBytes}
use Rattle.aes_core.proofs.RoundLemmas.{decrypted-encrypted, encrypted_block-IsBlock, length-encrypted_block, length-decrypted_block}
use Rattle.cts_mode.specs.Cts.{cts_encrypted, cts_decrypted}
use Rattle.cts_mode.proofs.Undone.{IsCipher, undone, cs3_encrypted-AreBytes}
use Rattle.cts_mode.proofs.LengthLemmas.{length-cs3_encrypted, length-cs3_decrypted}
use Rattle.cts_mode.proofs.decryption_undoes_encryption.Goals as goal

aes : (key : List ℕ) → AreBytes key → IsCipher (encrypted_block key) (decrypted_block key)
aes key key_bytes =
    record {
      sizes = length-encrypted_block key;
      bytes = λ block size bytes. (encrypted_block-IsBlock key block key_bytes (record { size = size; bytes = bytes })).bytes;
      undone = λ block size bytes. decrypted-encrypted key block key_bytes (record { size = size; bytes = bytes });
    }

pub returns-clause-decrypted : goal.returns-clause-decrypted
unfolding cts_encrypted cts_decrypted
returns-clause-decrypted c key iv text key_bytes iv_block text_bytes some =
    undone (encrypted_block key) (decrypted_block key) (aes key key_bytes) iv iv_block.size iv_block.bytes text text_bytes some

pub returns-clause-bytes : goal.returns-clause-bytes
unfolding cts_encrypted
returns-clause-bytes c key iv text key_bytes iv_block text_bytes some =
    cs3_encrypted-AreBytes (encrypted_block key) (decrypted_block key) (aes key key_bytes) iv iv_block.size iv_block.bytes text text_bytes some

pub returns-clause-encrypted_length : goal.returns-clause-encrypted_length
unfolding cts_encrypted
returns-clause-encrypted_length c key iv text whole some = length-cs3_encrypted (encrypted_block key) (length-encrypted_block key) iv text some

pub returns-clause-decrypted_length : goal.returns-clause-decrypted_length
unfolding cts_decrypted
returns-clause-decrypted_length c key iv text whole some = length-cs3_decrypted (decrypted_block key) (length-decrypted_block key) iv text whole some
