-- What is written reads back, so distinct words and paths have distinct texts.
use Rattle.std.specs.Prelude.{◌≡◌, ℕ, List, IsTrue, Some}
use Rattle.script_words.specs.Word.{IsWord, word_bytes, word_text, may_be_target, target_bytes}
use Rattle.script_words.specs.Path.{IsPath, path_of}
use Rattle.script_words.specs.PathText.{path_text}
use Rattle.script_words.specs.declared.path.ScriptPart.{ScriptPart}

-- the text of 1 to 1,000 bytes spells them
abbrev pub WordsReadBack : Type 0
WordsReadBack = (bytes : List ℕ) → IsWord bytes → word_bytes (word_text bytes) ≡ Some bytes

-- so does that of a target
abbrev pub TargetsReadBack : Type 0
TargetsReadBack =
    (bytes : List ℕ) → IsWord bytes → IsTrue (may_be_target bytes)
    → target_bytes (word_text bytes) ≡ Some bytes

-- what a text spells as a word is 1 to 1,000 bytes
abbrev pub TextsSpellWords : Type 0
TextsSpellWords = (text bytes : List ℕ) → word_bytes text ≡ Some bytes → IsWord bytes

-- and as a target it has no NUL either
abbrev pub TextsSpellTargets : Type 0
TextsSpellTargets =
    (text bytes : List ℕ) → target_bytes text ≡ Some bytes → IsWord bytes × IsTrue (may_be_target bytes)

-- words that are written alike are the same
abbrev pub DistinctWordsHaveDistinctTexts : Type 0
DistinctWordsHaveDistinctTexts = (a b : List ℕ) → IsWord a → IsWord b → word_text a ≡ word_text b → a ≡ b

-- the text of a path spells it
abbrev pub PathsReadBack : Type 0
PathsReadBack = (path : List ScriptPart) → IsPath path → path_of (path_text path) ≡ Some path

-- what a text spells as a path is one, so its own text spells it too
abbrev pub TextsSpellPaths : Type 0
TextsSpellPaths = (text : List ℕ) (path : List ScriptPart) → path_of text ≡ Some path → IsPath path

-- paths that are written alike are the same
abbrev pub DistinctPathsHaveDistinctTexts : Type 0
DistinctPathsHaveDistinctTexts =
    (a b : List ScriptPart) → IsPath a → IsPath b → path_text a ≡ path_text b → a ≡ b
