-- The statement of one line of a script, independent of the other lines.
use Rattle.std.specs.Prelude.{ℕ, ◌==◌, ◌||◌, List, length, drop, slice_get}
use Rattle.std.specs.Prelude.{slice_index, codes, Option, Some, if◌then◌else◌}
use Rattle.std.specs.Option.{option_map, option_and_then}
use Rattle.std.specs.Str.{bytes_eq}
use Rattle.text_words.specs.Words.{words_of}
use Rattle.script_lang.specs.Forms.{word, whole}
use Rattle.script_lang.specs.Commands.{verb_of}
use Rattle.script_words.specs.Numbers.{number_of}
use Rattle.script_lang.specs.declared.statements.Statement.{Statement}
use Rattle.script_lang.specs.declared.statements.Statement.TheVariants.{Nothing, Caller, Order}

-- the statement of a name and the words after it: a caller with its user, or a command
abbrev pub statement_of_name : List ℕ → List (List ℕ) → Option Statement
statement_of_name name words =
    if bytes_eq name (codes "caller") then option_map Caller (whole (word number_of) words)
    else option_map Order (verb_of name words)

-- the statement of words, the first of which is the name
abbrev pub statement_of_words : List (List ℕ) → Option Statement
statement_of_words words = option_and_then (λ name. statement_of_name name (drop 1 words)) (slice_get words 0)

-- the statement of a line, if it is in the grammar: an empty line, or one that begins with `#`, is
-- `Nothing`
abbrev pub statement_of : List ℕ → Option Statement
statement_of line =
    if length line == 0 || slice_index line 0 == 35 then Some Nothing else statement_of_words (words_of line)
