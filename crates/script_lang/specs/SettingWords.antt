-- The words in which optional settings, options and numbers are written.
use Rattle.std.specs.Prelude.{ℕ, List, [], ◌∷◌, Option, Some, None}
use Rattle.text_words.specs.Numbers.{decimal_of}
use Rattle.policy_ctx.specs.declared.policy.Unit.{Unit as DataUnit}
use Rattle.script_words.specs.Numbers.{pad_text, unit_text}
use Rattle.script_lang.specs.declared.verb.Settings.{Settings}
use Rattle.script_lang.specs.declared.verb.Options.{Options}

-- no word, or one
abbrev pub words_of_unit : Option DataUnit → List (List ℕ)
words_of_unit None = []
words_of_unit (Some unit) = unit_text unit ∷ []

abbrev pub words_of_number : Option ℕ → List (List ℕ)
words_of_number None = []
words_of_number (Some number) = decimal_of number ∷ []

abbrev pub words_of_settings : Settings → List (List ℕ)
words_of_settings settings = pad_text settings.pad ∷ words_of_unit settings.unit

abbrev pub words_of_optional_settings : Option Settings → List (List ℕ)
words_of_optional_settings None = []
words_of_optional_settings (Some settings) = words_of_settings settings

abbrev pub words_of_options : Option Options → List (List ℕ)
words_of_options None = []
words_of_options (Some options) = pad_text options.pad ∷ unit_text options.unit ∷ []
