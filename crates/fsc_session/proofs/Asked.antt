-- Facts of a script that some text spells.
use Rattle.std.proofs.Common.{◌≤◌, ◌+◌, ℕ, List, [], ◌∷◌, length}
use Rattle.std.specs.Prelude.{All}
use Rattle.std.proofs.lemmas.List.Elements.{All-nil, All-cons}
use Rattle.script_lang.specs.declared.commands.Command.{Command}
use Rattle.script_lang.specs.declared.commands.Section.{Section}
use Rattle.script_lang.specs.Writing.{first_free_line}
use Rattle.script_lang.specs.CommandTasks.{IsAskable}
use Rattle.script_lang.specs.Spelled.{FollowInOrder, HaveSpace, IsSpelled}
use Rattle.script_lang.proofs.RoundTrip.{IsSpelled-writable}
use Rattle.fsc_session.specs.Asking.{AsksRightly}

abbrev IsAsked : Command → Type 0
IsAsked command = IsAskable command.verb

commands_asked : (n : ℕ) (commands : List Command) → FollowInOrder n commands → All IsAsked commands
commands_asked n [] behind = All-nil IsAsked
commands_asked n (command ∷ more) behind =
    All-cons IsAsked command more behind.1.0 (commands_asked (command.line + 1) more behind.1.1)

sections_asked : (n : ℕ) (sections : List Section) → HaveSpace n sections → All AsksRightly sections
sections_asked n [] room = All-nil AsksRightly
sections_asked n (section ∷ more) room =
    All-cons AsksRightly section more (commands_asked (n + 1) section.commands room.1.0)
    (sections_asked (first_free_line (n + 1) section.commands) more room.1.1)

-- it has at most eight callers
pub spelled-few : (script : List Section) → IsSpelled script → length script ≤ 8
spelled-few script spelled = ((IsSpelled-writable script).0 spelled).0

-- words can ask for each of its commands
pub spelled-asked : (script : List Section) → IsSpelled script → All AsksRightly script
spelled-asked script spelled = sections_asked 1 script ((IsSpelled-writable script).0 spelled).1
