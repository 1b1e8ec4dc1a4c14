-- The kinds of words are those that the grammar asks for.
use Rattle.std.specs.Prelude.{ℕ, ◌≡◌, IsTrue, is_some, List, length}
use Rattle.script_lang.specs.Commands.{command_named}
use Rattle.script_lang.specs.declared.names.CommandName.{CommandName}
use Rattle.script_faults.specs.WordKinds.{kinds_of}
use Rattle.script_faults.specs.WordTests.{are_of}

-- the words of a command are each of their kind, and none is left over
abbrev pub CommandsHaveWordsOfTheirKinds : Type 0
CommandsHaveWordsOfTheirKinds =
    (name : CommandName) (words : List (List ℕ))
    → IsTrue (is_some (command_named name words)) → IsTrue (are_of words (kinds_of name))

-- as many words as there are kinds, each of its kind, make a command
abbrev pub WordsOfAllKindsMakeCommands : Type 0
WordsOfAllKindsMakeCommands =
    (name : CommandName) (words : List (List ℕ)) → length words ≡ length (kinds_of name)
    → IsTrue (are_of words (kinds_of name)) → IsTrue (is_some (command_named name words))
