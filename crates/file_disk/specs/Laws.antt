-- What writes and reads mean for the contents of files.
use Rattle.std.specs.Prelude.{◌≡◌, ℕ, List, Option}
use Rattle.byte_words.specs.Bytes.{AreBytes}
use Rattle.byte_words.specs.Contents.{with_bytes}
use Rattle.data_crypt.specs.Blocks.{Seal}
use Rattle.data_crypt.specs.Laws.{IsKeyOfBytes}
use Rattle.file_disk.specs.Bodies.{body_after_write, file_body}

-- after a write, the body that holds contents holds the contents with the bytes in them
abbrev pub WritesGive : Type 0
WritesGive = (seal : Option Seal) (at : ℕ) (bytes contents : List ℕ) → IsKeyOfBytes seal → AreBytes contents →
    body_after_write seal at bytes (file_body seal contents) ≡ file_body seal (with_bytes at bytes contents)
