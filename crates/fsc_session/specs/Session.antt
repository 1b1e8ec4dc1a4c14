-- The calls of a caller's section, command after command.
use Rattle.std.specs.Prelude.{◌≡◌, ℕ, ◌+◌, List, [], ◌∷◌, ◌++◌, drop, Option, Some, None, unwrap_or}
use Rattle.call_history.specs.Placed.{entries_of}
use Rattle.mount_model.specs.declared.call.Call.{Call}
use Rattle.mount_model.specs.Port.{PlacedCalls}
use Rattle.mount_model.specs.History.{History, MountEntry}
use Rattle.script_lang.specs.declared.commands.Section.{Section}
use Rattle.script_lang.specs.declared.commands.Command.{Command}
use Rattle.reply_text.specs.declared.notes.Note.{Note}
use Rattle.reply_text.specs.declared.outcome.Outcome.{Outcome}
use Rattle.fsc_commands.specs.Steps.{Steps, Reaches, next_of, value_after, names_in, and_then}
use Rattle.fsc_commands.specs.Steps.Steps.{Done}
use Rattle.fsc_commands.specs.Commands.{command_steps}

-- the note of a command that is a session's work; a single call has none
abbrev pub notes_of_command : ℕ → Command → Option Outcome → List Note
notes_of_command caller command None = []
notes_of_command caller command (Some outcome)
    = record { caller = caller; line = command.line; outcome = outcome } ∷ []

-- the steps of commands, of which the first has this number, for a caller whose last listing has these
-- names and that has these notes; they end with all notes
abbrev pub steps_from : List ℕ → ℕ → ℕ → ℕ → List (List ℕ) → List Note → List Command → Steps (List Note)
steps_from seed caller uid number names notes [] = Done notes
steps_from seed caller uid number names notes (command ∷ more) =
    and_then names (command_steps seed caller uid number names command.verb)
    (λ told outcome.
    steps_from seed caller uid (number + 1) told (notes ++ notes_of_command caller command outcome) more)

-- the steps of a caller's section
abbrev pub section_steps : List ℕ → ℕ → Section → Steps (List Note)
section_steps seed caller section = steps_from seed caller section.uid 0 [] [] section.commands

-- the call that the caller of a section makes after these entries of its own
abbrev pub next_call : List ℕ → ℕ → Section → History → Option (ℕ × Call)
next_call seed caller section es = next_of (section_steps seed caller section) es

-- the entries are a run of the caller's section: from its first command to its last
abbrev pub IsRunOfSection : List ℕ → ℕ → Section → PlacedCalls → Type 0
IsRunOfSection seed caller section placed =
    (notes : List Note) × Reaches (section_steps seed caller section) (entries_of placed) (Done notes)

-- the notes of such a run: how each session command ended, in order
abbrev pub notes_of_section : List ℕ → ℕ → Section → PlacedCalls → List Note
notes_of_section seed caller section placed =
    unwrap_or (value_after (section_steps seed caller section) (entries_of placed)) []

-- the entries are a run of the first n commands, which has these notes
abbrev pub IsRunSoFar : List ℕ → ℕ → Section → ℕ → PlacedCalls → List Note → Type 0
IsRunSoFar seed caller section n placed notes =
    Reaches (section_steps seed caller section) (entries_of placed)
    (steps_from seed caller section.uid n (names_in placed) notes (drop n section.commands))

-- each entry makes the call that comes after those before it, and none comes after all of them
pub record AreNextCalls {A : Type 0} (steps : Steps A) (es : History) : Type 0 where
  pub each : (before after : History) (e : MountEntry) → es ≡ before ++ e ∷ after
      → next_of steps before ≡ Some (e.who, e.call)
  pub whole : next_of steps es ≡ None
