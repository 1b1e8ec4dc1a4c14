-- A script: lines, each ended by a line feed, that make sections of one caller each.
use Rattle.std.specs.Prelude.{ℕ, ◌==◌, ◌≡◌, List, [], ◌∷◌, length, Option}
use Rattle.std.specs.Prelude.{None, Result, Ok, Err, if◌then◌else◌}
use Rattle.std.specs.Option.{option_map_or}
use Rattle.text_words.specs.Lines.{pieces_of}
use Rattle.script_lang.specs.Statements.{statement_of}
use Rattle.script_lang.specs.Sections.{first_misplaced_line, sections_of}
use Rattle.script_lang.specs.declared.commands.Section.{Section}
use Rattle.script_lang.specs.declared.statements.Statement.{Statement}
use Rattle.script_lang.specs.declared.reader.ScriptFault.{ScriptFault}
use Rattle.script_lang.specs.declared.reader.ScriptFault.TheVariants.{BadLine, NoMemory}

-- the statement of each piece between line feeds. After the last line feed the text must end: a piece
-- there is a line outside the grammar
unfoldable pub statements_in : List (List ℕ) → List (Option Statement)
statements_in [] = []
statements_in (last ∷ []) = if length last == 0 then [] else None ∷ []
statements_in (line ∷ next ∷ more) = statement_of line ∷ statements_in (next ∷ more)

-- the statements of the lines of a text
abbrev pub statements_of : List ℕ → List (Option Statement)
statements_of text = statements_in (pieces_of text)

-- the script that a text spells, or the number, from 1, of its first line outside the grammar
unfoldable pub parsed_script : List ℕ → Result (List Section) ℕ
parsed_script text =
    option_map_or Err (first_misplaced_line [] (statements_of text)) (Ok (sections_of 1 (statements_of text)))

-- the result of reading: the script or its first line outside the grammar; the reader may be out of
-- memory at any time
abbrev pub Reads : Result (List Section) ScriptFault → Result (List Section) ℕ → Type 0
Reads (Ok script) parsed = parsed ≡ Ok script
Reads (Err (BadLine n)) parsed = parsed ≡ Err n
Reads (Err NoMemory) parsed = Unit {0}
