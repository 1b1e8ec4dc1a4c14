-- The words in which a command is written: its name, and the others after it.
use Rattle.std.specs.Prelude.{ℕ, List, [], ◌∷◌, ◌++◌}
use Rattle.std.specs.List.{flat_map}
use Rattle.script_lang.specs.Names.{name_text}
use Rattle.script_lang.specs.VerbNames.{name_in}
use Rattle.script_lang.specs.declared.verb.Verb.{Verb}
use Rattle.script_lang.specs.VerbWords.{verb_words}

-- a space before each word
abbrev pub with_leading_spaces : List (List ℕ) → List ℕ
with_leading_spaces words = flat_map (λ word. 32 ∷ word) words

-- the same after a text, word by word
abbrev pub behind : List ℕ → List (List ℕ) → List ℕ
behind text [] = text
behind text (word ∷ more) = behind (text ++ 32 ∷ word) more

-- a command: its name, and a space before each further word
unfoldable pub verb_text : Verb → List ℕ
verb_text verb = name_text (name_in verb) ++ with_leading_spaces (verb_words verb)
