-- The result of work on a record that may stop.
use Rattle.std.specs.Prelude.{◌≡◌, ⊤, Result, Ok, Err}
use Rattle.reply_text.specs.declared.outcome.Outcome.{Outcome}
use Rattle.session_records.specs.declared.stop.Stop.{Stop}
use Rattle.session_records.specs.declared.stop.Stop.TheVariants.{Ended, NoMemory}

-- the result is the value or the outcome that is expected, or `NoMemory`
abbrev pub Gives : {A : Type 0} → Result A Stop → Result A Outcome → Type 0
Gives (Ok value) told = told ≡ Ok value
Gives (Err (Ended outcome)) told = told ≡ Err outcome
Gives (Err NoMemory) told = ⊤

-- the fact holds if there was no memory
abbrev pub IfNoMemory : {A : Type 0} → Result A Stop → Type 0 → Type 0
IfNoMemory (Err NoMemory) holds = holds
IfNoMemory other holds = ⊤
