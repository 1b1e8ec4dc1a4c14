-- How a log writes bytes and names. A word is written as in a script: letters, digits, `-`, `.`, `_` and
-- `~` as they are, every other byte as `%` and two upper-case digits. So it contains no space, no `=` and
-- no line feed.
use Rattle.std.specs.Prelude.{ℕ, ◌==◌, List, [], ◌∷◌, codes, if◌then◌else◌}
use Rattle.std.specs.List.{flat_map}
use Rattle.hex.specs.Hex.{encode_lower}
use Rattle.script_words.specs.Word.{byte_text, word_text}

-- two lower-case digits for each byte, and `-` if there is none
abbrev pub bytes_text : List ℕ → List ℕ
bytes_text [] = codes "-"
bytes_text (byte ∷ more) = encode_lower (byte ∷ more)

-- a `/` and a word
abbrev pub part_text : List ℕ → List ℕ
part_text part = 47 ∷ word_text part

-- a `/` and a word for each part of a path; the root is `/` alone
abbrev pub path_text : List (List ℕ) → List ℕ
path_text [] = codes "/"
path_text (part ∷ more) = flat_map part_text (part ∷ more)

-- a byte of a record's name: as in a word, but a `/` is written as it is
abbrev pub record_byte_text : ℕ → List ℕ
record_byte_text byte = if byte == 47 then byte ∷ [] else byte_text byte

-- the name of a record
unfoldable pub record_text : List ℕ → List ℕ
record_text name = flat_map record_byte_text name

-- a space and a word for each name
abbrev pub names_text : List (List ℕ) → List ℕ
names_text names = flat_map (λ name. 32 ∷ word_text name) names
