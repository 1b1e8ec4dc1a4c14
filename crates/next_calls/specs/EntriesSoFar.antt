-- What the entries of a caller so far are: a beginning of a run of its section, or a whole one.
use Rattle.std.specs.Prelude.{◌≡◌, ℕ, List, ◌++◌, Bool, true, false, Some, None}
use Rattle.call_history.specs.Placed.{entries_of}
use Rattle.mount_model.specs.Port.{PlacedCalls}
use Rattle.fsc_commands.specs.Steps.{Reaches, next_of, names_in}
use Rattle.fsc_commands.specs.CommandSteps.{CommandSteps}
use Rattle.fsc_session.specs.Session.{IsRunOfSection, IsRunSoFar, next_call, notes_of_section}
use Rattle.fsc_session.specs.Meaning.{IsBegunBy}
use Rattle.next_calls.specs.NextCalls.{replies_of}
use Rattle.next_calls.specs.Callers.{CallerView, call_of, steps_under_way}

-- these entries of the caller are a run of the commands before the one under way, followed by entries
-- with which its steps begin
pub record IsCallerAfter (seed : List ℕ) (caller : CallerView) (placed : PlacedCalls) : Type 0 where
  pub before : PlacedCalls
  pub made : PlacedCalls
  pub rest : CommandSteps
  pub all : placed ≡ before ++ made
  pub run : IsRunSoFar seed caller.caller caller.section caller.next before caller.notes
  pub names : names_in before ≡ caller.names
  pub begins : Reaches (steps_under_way seed caller) (entries_of made) rest
  pub replies : replies_of (entries_of made) ≡ caller.replies

-- these are the entries of the caller so far: a beginning of a run of its section, after which the next
-- call is the one that it waits for. If it waits for none, they are a whole run, which has its notes
pub record Awaits (seed : List ℕ) (caller : CallerView) (placed : PlacedCalls) : Type 0 where
  pub begun : IsBegunBy seed caller.caller (Some caller.section) placed
  pub comes : next_call seed caller.caller caller.section (entries_of placed) ≡ call_of caller
  pub whole : caller.waiting ≡ None → IsRunOfSection seed caller.caller caller.section placed
      × (caller.notes ≡ notes_of_section seed caller.caller caller.section placed)
  pub is_after : IsCallerAfter seed caller placed
  pub asks : next_of (steps_under_way seed caller) (entries_of is_after.made) ≡ call_of caller

-- it waits for a reply, or for none; or it continues with the command that is under way now
abbrev pub GoesOn : Bool → List ℕ → CallerView → PlacedCalls → Type 0
GoesOn true seed caller placed = Awaits seed caller placed
GoesOn false seed caller placed = IsCallerAfter seed caller placed
