-- What the arguments of the command line ask for: `replay` or `replay --serial`, alone or followed by
-- `--seed HEX64`; `gen NUMBER` or `gen NUMBER --summary`, if the number is a decimal numeral below 2^32;
-- `dump --seed HEX64`; `inspect`, alone or followed by `raw:HEX`; `check --seed HEX64` or
-- `check --strict --seed HEX64`; `replay-linked --seed HEX64` or `replay-linked --serial --seed HEX64`.
use Rattle.std.specs.Prelude.{ℕ, List, [], ◌∷◌, ◌^◌, codes, Option, Some, None, if◌then◌else◌}
use Rattle.std.specs.Option.{option_map, option_and_then}
use Rattle.std.specs.Str.{bytes_eq}
use Rattle.text_words.specs.Numbers.{number_below}
use Rattle.script_words.specs.Keys.{key_ref_of}
use Rattle.script_words.specs.declared.key_words.KeyRef.{KeyRef}
use Rattle.script_words.specs.declared.key_words.KeyRef.TheVariants.{Raw}
use Rattle.fsc_tool.specs.declared.form.Way.TheVariants.{InThreads}
use Rattle.fsc_tool.specs.declared.form.ToolForm.{ToolForm}
use Rattle.fsc_tool.specs.declared.form.ToolForm.TheVariants.{Replay, Generate, Summarise, Dump, Inspect}
use Rattle.fsc_tool.specs.declared.form.ToolForm.TheVariants.{Check, CheckStrictly, ReplayLinked}
use Rattle.fsc_tool.specs.ReplayForms.{given_seed, replay_of, linked_of}

-- after `gen` and the number
abbrev pub generated_after : List (List ℕ) → ℕ → Option ToolForm
generated_after [] number = Some (Generate number)
generated_after (word ∷ []) number =
    if bytes_eq word (codes "--summary") then Some (Summarise number) else None
generated_after _ number = None

-- after `gen`
abbrev pub generated_of : List (List ℕ) → Option ToolForm
generated_of [] = None
generated_of (number ∷ words) = option_and_then (generated_after words) (number_below (2 ^ 32) number)

-- after `inspect`: no argument, or `raw:` and a raw key of 32 to 64 bytes in digits of either case
abbrev pub inspected_with : Option KeyRef → Option ToolForm
inspected_with (Some (Raw raw)) = Some (Inspect (Some raw))
inspected_with other = None

abbrev pub inspected_of : List (List ℕ) → Option ToolForm
inspected_of [] = Some (Inspect None)
inspected_of (word ∷ []) = inspected_with (key_ref_of word)
inspected_of _ = None

-- after `check`
abbrev pub checked_of : List (List ℕ) → Option ToolForm
checked_of [] = None
checked_of (word ∷ words) =
    if bytes_eq word (codes "--strict") then option_map CheckStrictly (given_seed words)
    else option_map Check (given_seed (word ∷ words))

-- what the arguments ask for, if they are a form
abbrev pub form_of : List (List ℕ) → Option ToolForm
form_of [] = None
form_of (verb ∷ words) =
    if bytes_eq verb (codes "replay") then replay_of words
    else if bytes_eq verb (codes "gen") then generated_of words
    else if bytes_eq verb (codes "dump") then option_map Dump (given_seed words)
    else if bytes_eq verb (codes "inspect") then inspected_of words
    else if bytes_eq verb (codes "check") then checked_of words
    else if bytes_eq verb (codes "replay-linked") then linked_of words
    else None

-- the same for a tool that starts no thread
abbrev pub without_threads : Option ToolForm → Option ToolForm
without_threads (Some (Replay InThreads seeding)) = None
without_threads (Some (ReplayLinked InThreads seed)) = None
without_threads other = other
