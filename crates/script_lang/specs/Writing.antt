-- The text in which a script is written: a line for each caller and each command, and empty lines between
-- them, so that each command is in its own line.
use Rattle.std.specs.Prelude.{ℕ, ◌+◌, ◌-◌, List, [], ◌∷◌, ◌++◌, replicate, codes}
use Rattle.text_words.specs.Numbers.{decimal_of}
use Rattle.script_lang.specs.VerbText.{verb_text}
use Rattle.script_lang.specs.declared.commands.Command.{Command}
use Rattle.script_lang.specs.declared.commands.Section.{Section}

-- that many empty lines
abbrev pub empty_lines : ℕ → List ℕ
empty_lines count = replicate count 10

-- the words of a caller's line
abbrev pub caller_text : ℕ → List ℕ
caller_text uid = codes "caller " ++ decimal_of uid

-- a command in its own line, of which the first free line is n
abbrev pub command_text : ℕ → Command → List ℕ
command_text n command = empty_lines (command.line - n) ++ (verb_text command.verb ++ codes "\n")

-- commands in their own lines, of which the first free line is n
unfoldable pub commands_text : ℕ → List Command → List ℕ
commands_text n [] = []
commands_text n (command ∷ more) = command_text n command ++ commands_text (command.line + 1) more

-- the first free line after the commands; line n if there is none
abbrev pub first_free_line : ℕ → List Command → ℕ
first_free_line n [] = n
first_free_line n (command ∷ more) = first_free_line (command.line + 1) more

-- a caller in line n, and its commands
abbrev pub section_text : ℕ → Section → List ℕ
section_text n section = caller_text section.uid ++ (codes "\n" ++ commands_text (n + 1) section.commands)

-- sections, of which the first begins in line n, and each other after the last command before it
unfoldable pub sections_text : ℕ → List Section → List ℕ
sections_text n [] = []
sections_text n (section ∷ more) =
    section_text n section ++ sections_text (first_free_line (n + 1) section.commands) more

-- a script from line 1 on
unfoldable pub script_text : List Section → List ℕ
script_text script = sections_text 1 script
