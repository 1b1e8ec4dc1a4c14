-- What a file's blocks are encrypted with, by the cipher that stores and reads them.
use Rattle.std.specs.Prelude.{Option, None, Some}
use Rattle.data_crypt.specs.Blocks.{Seal}
use Rattle.data_crypt.specs.declared.cipher.FileCipher.{FileCipher}

abbrev pub cipher_seal : FileCipher → Seal
cipher_seal cipher = record { key = cipher.key; start = cipher.start; unit = cipher.unit }

-- nothing, if a file is under no policy
abbrev pub seal_by : Option FileCipher → Option Seal
seal_by None = None
seal_by (Some cipher) = Some (cipher_seal cipher)
