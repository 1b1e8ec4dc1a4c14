-- Why a line is at fault, and which line of a text is the first.
use Rattle.std.specs.Prelude.{ℕ, ◌==◌, ◌+◌, nat_lt, List, [], ◌∷◌, length, Option, Some, None, if◌then◌else◌}
use Rattle.std.specs.Option.{option_map_or}
use Rattle.text_words.specs.Lines.{pieces_of}
use Rattle.script_lang.specs.Sections.{is_caller}
use Rattle.script_lang.specs.Statements.{statement_of}
use Rattle.script_lang.specs.declared.limits.TheConstants.{MAX_CALLERS}
use Rattle.script_faults.specs.declared.faults.LineFault.{LineFault}
use Rattle.script_faults.specs.declared.faults.LineFault.TheVariants as fault
use Rattle.script_faults.specs.declared.faults.FaultyLine.{FaultyLine}
use Rattle.script_lang.specs.declared.statements.Statement.{Statement}
use Rattle.script_lang.specs.declared.statements.Statement.TheVariants.{Nothing, Caller, Order}
use Rattle.script_faults.specs.GrammarFaults.{grammar_fault}

-- why a line of this statement is at fault after that many callers; none if it is allowed there
abbrev pub fault_of_statement : ℕ → List ℕ → Option Statement → Option LineFault
fault_of_statement callers line None = Some (grammar_fault line)
fault_of_statement callers line (Some Nothing) = None
fault_of_statement callers line (Some (Caller uid)) =
    if nat_lt callers MAX_CALLERS then None else Some fault.NinthCaller
fault_of_statement callers line (Some (Order verb))
    = if nat_lt 0 callers then None else Some fault.NoCallerYet

-- why a line is at fault that a line feed ended
abbrev pub fault_after : ℕ → List ℕ → Option LineFault
fault_after callers line = fault_of_statement callers line (statement_of line)

-- how many callers are before the next line
abbrev pub callers_with : ℕ → List ℕ → ℕ
callers_with callers line = if is_caller (statement_of line) then callers + 1 else callers

-- the first line at fault of the pieces between line feeds, and why: the first of them is line n, with
-- that many callers before it. After the last line feed the text must end
unfoldable pub fault_from : ℕ → ℕ → List (List ℕ) → Option FaultyLine
fault_from n callers [] = None
fault_from n callers (last ∷ []) =
    if length last == 0 then None else Some (record { line = n; fault = fault.NotEnded })
fault_from n callers (line ∷ next ∷ more) =
    option_map_or (λ found. Some (record { line = n; fault = found }))
    (fault_after callers line) (fault_from (n + 1) (callers_with callers line) (next ∷ more))

-- the first line at fault of a text, and why
abbrev pub first_fault : List ℕ → Option FaultyLine
first_fault text = fault_from 1 0 (pieces_of text)
