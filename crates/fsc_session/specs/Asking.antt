-- The commands that a section may have.
use Rattle.std.specs.Prelude.{All}
use Rattle.script_lang.specs.declared.commands.Section.{Section}
use Rattle.script_lang.specs.CommandTasks.{IsAskable}

-- words can ask for each command of the section
abbrev pub AsksRightly : Section → Type 0
AsksRightly section = All (λ command. IsAskable command.verb) section.commands
