-- The sections that lines make together, and which line is allowed after which. The statement of a line
-- is an `Option`: `None` if the line on its own is outside the grammar.
use Rattle.std.specs.Prelude.{ℕ, ◌+◌, nat_lt, Bool, false, true, List, [], ◌∷◌, ◌++◌}
use Rattle.std.specs.Prelude.{length, count_by, Option, Some, None, if◌then◌else◌}
use Rattle.script_lang.specs.declared.limits.TheConstants.{MAX_CALLERS}
use Rattle.script_lang.specs.declared.commands.Command.{Command}
use Rattle.script_lang.specs.declared.commands.Section.{Section}
use Rattle.script_lang.specs.declared.statements.Statement.{Statement}
use Rattle.script_lang.specs.declared.statements.Statement.TheVariants.{Nothing, Caller, Order}

-- whether a line names a caller
abbrev pub is_caller : Option Statement → Bool
is_caller (Some (Caller uid)) = true
is_caller _ = false

-- whether a line is allowed after that many callers: a further caller after fewer than eight, and a
-- command after at least one
abbrev pub may_stand : ℕ → Option Statement → Bool
may_stand callers None = false
may_stand callers (Some Nothing) = true
may_stand callers (Some (Caller uid)) = nat_lt callers MAX_CALLERS
may_stand callers (Some (Order verb)) = nat_lt 0 callers

-- the number of the first line that is not allowed after all those before it; `before` are the lines
-- before the ones that are left
unfoldable pub first_misplaced_line : List (Option Statement) → List (Option Statement) → Option ℕ
first_misplaced_line before [] = None
first_misplaced_line before (line ∷ more) =
    if may_stand (count_by is_caller before) line then first_misplaced_line (before ++ line ∷ []) more
    else Some (length before + 1)

-- the commands up to the next caller, each with the number of its line; the first line's is n
unfoldable pub commands_of : ℕ → List (Option Statement) → List Command
commands_of n [] = []
commands_of n (None ∷ more) = commands_of (n + 1) more
commands_of n (Some Nothing ∷ more) = commands_of (n + 1) more
commands_of n (Some (Caller uid) ∷ more) = []
commands_of n (Some (Order verb) ∷ more) = record { line = n; verb = verb } ∷ commands_of (n + 1) more

-- a section for each caller, with the commands after it; the first line's number is n
unfoldable pub sections_of : ℕ → List (Option Statement) → List Section
sections_of n [] = []
sections_of n (None ∷ more) = sections_of (n + 1) more
sections_of n (Some Nothing ∷ more) = sections_of (n + 1) more
sections_of n (Some (Caller uid) ∷ more) =
    record { uid = uid; commands = commands_of (n + 1) more } ∷ sections_of (n + 1) more
sections_of n (Some (Order verb) ∷ more) = sections_of (n + 1) more
