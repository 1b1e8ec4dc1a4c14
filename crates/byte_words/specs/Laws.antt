-- Laws of contents into which bytes were written, for any contents before.
use Rattle.std.specs.Prelude.{◌≡◌, ◌⊎◌, ℕ, ◌+◌, ◌<◌, ◌≤◌, List, length, max, slice_index}
use Rattle.byte_words.specs.Contents.{with_bytes, bytes_from}

-- what was written is read
abbrev pub WrittenBytesAreRead : Type 0
WrittenBytesAreRead =
    (at : ℕ) (bytes contents : List ℕ) → bytes_from at (length bytes) (with_bytes at bytes contents) ≡ bytes

-- each other byte is as before, or a zero if the contents had none
abbrev pub OtherBytesStay : Type 0
OtherBytesStay = (at : ℕ) (bytes contents : List ℕ) (i : ℕ) → (i < at) ⊎ (at + length bytes ≤ i)
    → slice_index (with_bytes at bytes contents) i ≡ slice_index contents i

-- the end of the contents is unchanged, or after the last byte that was written
abbrev pub ContentsGrow : Type 0
ContentsGrow = (at : ℕ) (bytes contents : List ℕ) → 0 < length bytes
    → length (with_bytes at bytes contents) ≡ max (length contents) (at + length bytes)
