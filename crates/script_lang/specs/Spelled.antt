-- Which scripts some text spells.
use Rattle.std.specs.Prelude.{ℕ, ◌≡◌, ◌≤◌, ◌<◌, ◌^◌, ◌+◌, List, [], ◌∷◌, length, Ok}
use Rattle.script_lang.specs.Script.{parsed_script}
use Rattle.script_lang.specs.Writing.{first_free_line}
use Rattle.script_lang.specs.CommandTasks.{IsAskable}
use Rattle.script_lang.specs.declared.limits.TheConstants.{MAX_CALLERS}
use Rattle.script_lang.specs.declared.commands.Command.{Command}
use Rattle.script_lang.specs.declared.commands.Section.{Section}

-- some text spells the script
abbrev pub IsSpelled : List Section → Type 0
IsSpelled script = (text : List ℕ) × (parsed_script text ≡ Ok script)

-- each command can be asked for and its line is after the one before it; the first is in line n or later
abbrev pub FollowInOrder : ℕ → List Command → Type 0
FollowInOrder n [] = Unit {0}
FollowInOrder n (command ∷ more) =
    (n ≤ command.line) × (IsAskable command.verb × FollowInOrder (command.line + 1) more)

-- each section has a user below 2^32 and a line for its caller, line n or a later one, between the
-- commands before it and its own
abbrev pub HaveSpace : ℕ → List Section → Type 0
HaveSpace n [] = Unit {0}
HaveSpace n (section ∷ more) =
    (section.uid < 2 ^ 32) ×
    (FollowInOrder (n + 1) section.commands × HaveSpace (first_free_line (n + 1) section.commands) more)

-- at most eight callers, keys and users that words can spell, and a line for each caller and command
abbrev pub IsWritable : List Section → Type 0
IsWritable script = (length script ≤ MAX_CALLERS) × HaveSpace 1 script
