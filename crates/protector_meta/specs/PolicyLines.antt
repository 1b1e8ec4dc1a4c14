-- The values on the lines of a policy's record, up to its wraps.
use Rattle.std.specs.Prelude.{ℕ, ◌^◌, Bool, true, false, List}
use Rattle.std.specs.Prelude.{[], ◌∷◌, codes, Option, Some, None, if◌then◌else◌}
use Rattle.std.specs.Str.{bytes_eq}
use Rattle.text_words.specs.Numbers.{number_below}
use Rattle.text_words.specs.Words.{words_of}
use Rattle.policy_ctx.specs.Settings.{pad_of_size, unit_of_log2}
use Rattle.protector_meta.specs.declared.policy_file.Options.{Options}
use Rattle.protector_meta.specs.LineValues.{digits_line_value, word_value}

-- whether the record has a line of options: the version on the first line decides
abbrev pub head_value : List ℕ → Option Bool
head_value line =
    if bytes_eq line (codes "fsc-policy 1") then Some false else
    if bytes_eq line (codes "fsc-policy 2") then Some true else
    None

-- the 16 bytes whose digits follow `id `
abbrev pub id_value : List ℕ → Option (List ℕ)
id_value line = digits_line_value (codes "id ") 16 line

-- continue if there is a value
infixl 10 ◌>>=◌
abbrev pub ◌>>=◌ : {A B : Type 0} → Option A → (A → Option B) → Option B
None >>= f = None
(Some x) >>= f = f x

-- the options that two words spell: the padding in bytes, and the number of the unit
abbrev pub options_of_words : List (List ℕ) → Option Options
options_of_words (size ∷ log ∷ []) = do
  size ← number_below (2 ^ 32) size
  log ← number_below (2 ^ 32) log
  pad ← pad_of_size size
  unit ← unit_of_log2 log
  let options : Options = record { pad = pad; unit = unit } in Some options
options_of_words _ = None

-- the options that a line spells
unfoldable pub options_value : List ℕ → Option Options
options_value line = word_value (codes "options ") (λ text. options_of_words (words_of text)) line
