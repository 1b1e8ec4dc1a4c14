-- The text in which a path of a script is written.
use Rattle.std.specs.Prelude.{ℕ, List, [], ◌∷◌, ◌++◌, codes}
use Rattle.text_words.specs.Numbers.{decimal_of}
use Rattle.script_words.specs.Word.{word_text}
use Rattle.script_words.specs.declared.path.ScriptPart.{ScriptPart}
use Rattle.script_words.specs.declared.path.ScriptPart.TheVariants.{Given, Star}

-- the text of a part: a star as it was read, a given part as a word
abbrev pub part_text : ScriptPart → List ℕ
part_text (Given bytes) = word_text bytes
part_text (Star number) = 42 ∷ decimal_of number

-- a `/` before the text of each part
abbrev pub parts_text : List ScriptPart → List ℕ
parts_text [] = []
parts_text (part ∷ parts) = 47 ∷ (part_text part ++ parts_text parts)

-- the text in which a path is written
unfoldable pub path_text : List ScriptPart → List ℕ
path_text [] = codes "/"
path_text (part ∷ parts) = parts_text (part ∷ parts)
