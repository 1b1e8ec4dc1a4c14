-- The values on lines of records: most follow a word with which the line begins.
use Rattle.std.specs.Prelude.{ℕ, List, codes, Option}
use Rattle.std.specs.Option.{option_and_then}
use Rattle.text_words.specs.Digits.{lower_hex_bytes_of_length}
use Rattle.text_words.specs.Words.{rest_after}
use Rattle.short_bytes.specs.Label.{label_of}

-- the value of the text after a word
abbrev pub word_value : {A : Type 0} → List ℕ → (List ℕ → Option A) → List ℕ → Option A
word_value word value text = option_and_then value (rest_after word text)

-- the label on the line of a name
abbrev pub name_line_value : List ℕ → Option (List ℕ)
name_line_value line = word_value (codes "name ") label_of line

-- the n bytes that the digits after a word spell
abbrev pub digits_line_value : List ℕ → ℕ → List ℕ → Option (List ℕ)
digits_line_value word n line = word_value word (lower_hex_bytes_of_length n) line
