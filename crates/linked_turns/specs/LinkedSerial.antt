-- The histories that a script makes in rotation on two mounts if there is memory for every call.
use Rattle.std.specs.Prelude.{ℕ, List, [], ◌∷◌, ◌++◌}
use Rattle.call_history.specs.Entries.{entry}
use Rattle.mount_model.specs.PlainMount.{empty_mount}
use Rattle.mount_model.specs.History.{History}
use Rattle.script_lang.specs.declared.commands.Section.{Section}
use Rattle.fsc_commands.specs.Steps.{Steps}
use Rattle.fsc_commands.specs.Steps.Steps.{Done, Ask}
use Rattle.fsc_session.specs.Rotation.{rotation_steps}
use Rattle.linked_turns.specs.TwoMounts.{TwoMounts, two}
use Rattle.linked_turns.specs.LinkedAnswers.{linked_answer}

-- both histories
pub record TwoHistories : Type 0 where
  pub even : History
  pub odd : History

abbrev pub histories : History → History → TwoHistories
histories even odd = record { even = even; odd = odd }

-- each call answered by the mounts that the calls before it leave
abbrev pub linked_histories_of : {A : Type 0} → TwoMounts → Steps A → TwoHistories
linked_histories_of m (Done value) = histories [] []
linked_histories_of m (Ask who call next) =
    let answer = linked_answer m who call in
    let rest = linked_histories_of answer.left (next answer.reply) in
    histories (answer.even ++ rest.even) (answer.odd ++ rest.odd)

-- the histories of a script, a function of script and seed alone
abbrev pub linked_histories : List ℕ → List Section → TwoHistories
linked_histories seed script = linked_histories_of (two empty_mount empty_mount) (rotation_steps seed script)

-- the calls of callers, with their replies: each call answered by the mounts that the calls before it leave
abbrev pub serial_calls_of : {A : Type 0} → TwoMounts → Steps A → History
serial_calls_of m (Done value) = []
serial_calls_of m (Ask who call next) =
    let answer = linked_answer m who call in
    entry who call answer.reply ∷ serial_calls_of answer.left (next answer.reply)

-- those of a script, a function of script and seed alone
abbrev pub linked_calls : List ℕ → List Section → History
linked_calls seed script = serial_calls_of (two empty_mount empty_mount) (rotation_steps seed script)
