-- A script and a log in one input: the first line that is `---` separates them.
use Rattle.std.specs.Prelude.{ℕ, ◌+◌, List, [], ◌∷◌, ◌++◌, length, take, drop, codes, Option, Some, None, if◌then◌else◌}
use Rattle.std.specs.Prelude.{Result, Ok, Err}
use Rattle.std.specs.Option.{option_map, option_map_or}
use Rattle.std.specs.Str.{bytes_eq}
use Rattle.text_words.specs.Lines.{line_count, pieces_of}
use Rattle.script_lang.specs.declared.commands.Section.{Section}
use Rattle.script_lang.specs.Script.{parsed_script}

-- the separating line
abbrev pub parting : List ℕ
parting = codes "---"

-- a script's text, the separating line, and a log after it
abbrev pub certificate_text : List ℕ → List ℕ → List ℕ
certificate_text script log = script ++ (parting ++ 10 ∷ log)

-- from the pieces of a text, of which the last is no line: the number of bytes before the first separating
-- line
unfoldable pub bytes_before : List (List ℕ) → Option ℕ
bytes_before [] = None
bytes_before (last ∷ []) = None
bytes_before (line ∷ next ∷ more) =
    if bytes_eq line parting then Some 0
    else option_map (λ bytes. length line + 1 + bytes) (bytes_before (next ∷ more))

-- what is before that many bytes, and what is after the line that begins there
abbrev pub split_input_at : List ℕ → ℕ → List ℕ × List ℕ
split_input_at input at = (take at input, drop (at + 4) input)

-- what is before the first separating line, and what is after it
abbrev pub split_input : List ℕ → Option (List ℕ × List ℕ)
split_input input = option_map (split_input_at input) (bytes_before (pieces_of input))

-- the script's part: the whole input, if no line separates
abbrev pub script_part : List ℕ → List ℕ
script_part input = option_map_or (λ parts. parts.0) (split_input input) input

-- a script with the log, or the number of the line after it if the separating line is missing
abbrev pub with_log : List ℕ → Option (List ℕ × List ℕ) → List Section → Result (List Section × List ℕ) ℕ
with_log input None script = Err (line_count input + 1)
with_log input (Some parts) script = Ok (script, parts.1)

abbrev pub unless_bad : Result (List Section) ℕ → (List Section → Result (List Section × List ℕ) ℕ)
    → Result (List Section × List ℕ) ℕ
unless_bad (Err line) go_on = Err line
unless_bad (Ok script) go_on = go_on script

-- the script and the log of an input, or the number of its line at fault: the first of the script's part
-- that is outside the grammar, or the one after it
abbrev pub read_certificate : List ℕ → Result (List Section × List ℕ) ℕ
read_certificate input = unless_bad (parsed_script (script_part input)) (with_log input (split_input input))
