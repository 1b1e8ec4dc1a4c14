-- The scripts that are generated from a number: eight callers, each with 200 commands that are chosen by
-- the numbers after it. The sequence of numbers continues through all callers.
use Rattle.std.specs.Prelude.{ℕ, zero, suc, ◌+◌, List, [], ◌∷◌}
use Rattle.load_gen.specs.Numbers.{number_after}
use Rattle.load_gen.specs.Callers.{section}
use Rattle.script_lang.specs.Writing.{script_text}
use Rattle.script_lang.specs.declared.commands.Section.{Section}

-- `count` callers from caller c on, if x is the last number before them
unfoldable pub sections : ℕ → ℕ → ℕ → List Section
sections zero c x = []
sections (suc count) c x = section c x ∷ sections count (c + 1) (number_after 200 x)

-- the script that is generated from the number
unfoldable pub generated_script : ℕ → List Section
generated_script number = sections 8 0 number

-- its text
abbrev pub generated_text : ℕ → List ℕ
generated_text number = script_text (generated_script number)
