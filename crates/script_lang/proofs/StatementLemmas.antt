-- The statements that a line of a script can make.
use Rattle.std.proofs.Common.{ℕ, ◌<◌, ◌^◌, List, [], ◌∷◌, codes, Option, Some, None}
use Rattle.std.specs.Prelude.{IfSome}
use Rattle.std.specs.Str.{bytes_eq}
use Rattle.text_words.specs.Words.{words_of}
use Rattle.script_lang.specs.Names.{name_of}
use Rattle.script_lang.specs.Forms.{word, whole}
use Rattle.script_words.specs.Numbers.{number_of}
use Rattle.script_lang.specs.Commands.{verb_of}
use Rattle.script_lang.specs.Statements.{statement_of_words, statement_of}
use Rattle.script_lang.specs.CommandTasks.{IsAskable}
use Rattle.script_lang.specs.declared.names.CommandName.{CommandName}
use Rattle.script_lang.specs.declared.statements.Statement.{Statement}
use Rattle.script_lang.specs.declared.statements.Statement.TheVariants.{Nothing, Caller, Order}
use Rattle.script_words.proofs.WordSpells.{chosen_some, mapped_some, then_some}
use Rattle.script_lang.proofs.AskedLemmas.{command_named-askable, uid-small}

-- a statement that a line can make
abbrev pub IsSpelledStatement : Statement → Type 0
IsSpelledStatement Nothing = Unit {0}
IsSpelledStatement (Caller uid) = uid < 2 ^ 32
IsSpelledStatement (Order verb) = IsAskable verb

verb_of-askable : (first : List ℕ) (words : List (List ℕ)) → IfSome (verb_of first words) IsAskable
verb_of-askable first words =
    then_some (λ _. Unit {0}) IsAskable _ (name_of first) (any (name_of first)) (λ name _. command_named-askable name words)
  where
    any : (o : Option CommandName) → IfSome o (λ _. Unit {0})
    any None = tt
    any (Some name) = tt

statement_of_words-said : (words : List (List ℕ)) → IfSome (statement_of_words words) IsSpelledStatement
statement_of_words-said [] = tt
statement_of_words-said (name ∷ words) =
    chosen_some IsSpelledStatement (bytes_eq name (codes "caller")) _ _
    (mapped_some IsSpelledStatement Caller (whole (word number_of) words) (uid-small words))
    (mapped_some IsSpelledStatement Order (verb_of name words) (verb_of-askable name words))

pub statement_of-said : (line : List ℕ) → IfSome (statement_of line) IsSpelledStatement
statement_of-said line =
    chosen_some IsSpelledStatement _ (Some Nothing) (statement_of_words (words_of line)) tt (statement_of_words-said (words_of line))
