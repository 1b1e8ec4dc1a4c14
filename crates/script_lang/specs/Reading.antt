-- What the reader has after each line: the sections so far.
use Rattle.std.specs.Prelude.{ℕ, ◌≡◌, nat_lt, Bool, true, false, List, [], ◌∷◌, ◌++◌, length}
use Rattle.std.specs.Prelude.{Option, Some, None, Result, Ok, Err, MatchOption, if◌then◌else◌}
use Rattle.script_lang.specs.declared.limits.TheConstants.{MAX_CALLERS}
use Rattle.script_lang.specs.declared.commands.Command.{Command}
use Rattle.script_lang.specs.declared.commands.Section.{Section}
use Rattle.script_lang.specs.declared.statements.Statement.{Statement}
use Rattle.script_lang.specs.declared.statements.Statement.TheVariants.{Nothing, Caller, Order}
use Rattle.script_lang.specs.declared.verb.Verb.{Verb}
use Rattle.script_lang.specs.declared.reader.ScriptFault.{ScriptFault}
use Rattle.script_lang.specs.declared.reader.ScriptFault.TheVariants.{BadLine, NoMemory}

-- the sections, the last of them with these commands more
abbrev pub with_commands : List Section → List Command → List Section
with_commands [] commands = []
with_commands (last ∷ []) commands = record last { commands = last.commands ++ commands } ∷ []
with_commands (first ∷ next ∷ more) commands = first ∷ with_commands (next ∷ more) commands

-- the sections with one command more, if there is a section
abbrev pub with_command : List Section → Command → Option (List Section)
with_command sections command =
    if nat_lt 0 (length sections) then Some (with_commands sections (command ∷ [])) else None

-- the sections with one more, of this user, if there are fewer than eight
abbrev pub with_section : List Section → ℕ → Option (List Section)
with_section sections uid =
    if nat_lt (length sections) MAX_CALLERS
    then Some (sections ++ record { uid = uid; commands = [] } ∷ []) else None

-- the sections after line n, if the line is allowed after them
abbrev pub after_line : ℕ → List Section → Option Statement → Option (List Section)
after_line n sections None = None
after_line n sections (Some Nothing) = Some sections
after_line n sections (Some (Caller uid)) = with_section sections uid
after_line n sections (Some (Order verb)) = with_command sections (record { line = n; verb = verb })

-- the answer is whether the words of line n are a command; if so, it is appended
abbrev pub AddsCommand : ℕ → Option Verb → List Command → List Command → Bool → Type 0
AddsCommand n said old new answer =
    MatchOption said (answer ≡ false)
    (λ verb. (answer ≡ true) × (new ≡ old ++ record { line = n; verb = verb } ∷ []))

-- the answer is whether there are such sections, and the new ones are they
abbrev pub AddsStatement : Option (List Section) → List Section → Bool → Type 0
AddsStatement after new answer =
    MatchOption after (answer ≡ false) (λ sections. (answer ≡ true) × (new ≡ sections))

-- line n is refused exactly when there are no such sections; else the new ones are they
abbrev pub TakesLine : ℕ → Option (List Section) → Result (Unit {0}) ScriptFault → List Section → Type 0
TakesLine n after (Ok done) new = after ≡ Some new
TakesLine n after (Err (BadLine line)) new = (after ≡ None) × (line ≡ n)
TakesLine n after (Err NoMemory) new = Unit {0}
