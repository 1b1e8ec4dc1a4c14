-- What the work of a command, or a part of it, makes of its caller, by how it ended; if it was out of
-- memory, the beginning of the steps.
use Rattle.std.specs.Prelude.{ℕ, Option, Some, Result, Ok, Err}
use Rattle.mount_model.specs.Port.{PlacedCalls}
use Rattle.reply_text.specs.declared.outcome.Outcome.{Outcome}
use Rattle.session_records.specs.declared.stop.Stop.{Stop}
use Rattle.session_records.specs.declared.stop.Stop.TheVariants.{Ended, NoMemory}
use Rattle.fsc_commands.specs.declared.work.Caller.{Caller}
use Rattle.fsc_commands.specs.CommandSteps.{CommandSteps}
use Rattle.fsc_commands.specs.MadeCalls.{MadeCalls, MadePart, Begun, BegunPart}
use Rattle.fsc_commands.specs.Callers.{IsSameCaller}

-- what work made that ends with the value of its steps
abbrev pub Ends : {P : Type 0} → (P → PlacedCalls → P → Type 0) → (P → ℕ) → Caller P → Caller P → ℕ
    → CommandSteps → Result (Option Outcome) Stop → Type 0
Ends after_calls left old new most steps (Ok outcome) =
    MadeCalls (after_calls old.port.now) new.port.now (left new.port.now)
    (left old.port.now) most steps outcome
    old.entries.now new.entries.now
Ends after_calls left old new most steps (Err (Ended outcome)) =
    MadeCalls (after_calls old.port.now) new.port.now (left new.port.now) (left old.port.now) most steps
    (Some outcome)
    old.entries.now new.entries.now
Ends after_calls left old new most steps (Err NoMemory)
    = Begun (after_calls old.port.now) new.port.now most steps

-- what a part of it made, with whose value the work goes on
abbrev pub PartEnds : {P A : Type 0} → (P → PlacedCalls → P → Type 0) → (P → ℕ) → Caller P → Caller P → ℕ
    → ((A → CommandSteps) → CommandSteps) → Result A Stop → Type 0
PartEnds after_calls left old new most steps (Ok value) =
    MadePart (after_calls old.port.now) new.port.now (left new.port.now) (left old.port.now) most steps
    (Ok value)
    old.entries.now new.entries.now
PartEnds after_calls left old new most steps (Err (Ended outcome)) =
    MadePart (after_calls old.port.now) new.port.now (left new.port.now) (left old.port.now) most steps
    (Err outcome)
    old.entries.now new.entries.now
PartEnds after_calls left old new most steps (Err NoMemory)
    = BegunPart (after_calls old.port.now) new.port.now most steps

-- work that ended so made at most `most` calls, which these steps ask for
pub record WorkResult {P : Type 0} (after_calls : P → PlacedCalls → P → Type 0) (who left : P → ℕ)
    (old new : Caller P)
    (most : ℕ) (steps : CommandSteps) (result : Result (Option Outcome) Stop) : Type 0 where
  pub ends : Ends after_calls left old new most steps result
  pub same : IsSameCaller who old new

pub record WorkedPart {P A : Type 0} (after_calls : P → PlacedCalls → P → Type 0) (who left : P → ℕ)
    (old new : Caller P) (most : ℕ) (steps : (A → CommandSteps) → CommandSteps) (result : Result A Stop)
    : Type 0 where
  pub ends : PartEnds after_calls left old new most steps result
  pub same : IsSameCaller who old new
