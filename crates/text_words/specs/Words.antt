-- Words of a line: they are separated by one space each.
use Rattle.std.specs.Prelude.{ℕ, ◌==◌, Bool, List, length, take, drop, Option, Some, None, if◌then◌else◌}
use Rattle.std.specs.List.{slice_split}
use Rattle.std.specs.Str.{bytes_eq}

-- whether the byte is a space
abbrev pub is_space : ℕ → Bool
is_space b = b == 32

-- the words: the text before, between and after the spaces. Two spaces in a row have an empty word between
-- them
abbrev pub words_of : List ℕ → List (List ℕ)
words_of line = slice_split is_space line

-- the text after a word with which it begins
abbrev pub rest_after : List ℕ → List ℕ → Option (List ℕ)
rest_after word text = if bytes_eq (take (length word) text) word then Some
    (drop (length word) text) else None
