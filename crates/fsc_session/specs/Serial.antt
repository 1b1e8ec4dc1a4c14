-- The history that a script makes in rotation, if there is memory for every call.
use Rattle.std.specs.Prelude.{ℕ, List, [], ◌∷◌}
use Rattle.call_history.specs.Entries.{entry}
use Rattle.mount_model.specs.PlainMount.{PlainMount, empty_mount}
use Rattle.mount_model.specs.Answer.{answer_of}
use Rattle.mount_model.specs.History.{History}
use Rattle.script_lang.specs.declared.commands.Section.{Section}
use Rattle.fsc_commands.specs.Steps.{Steps}
use Rattle.fsc_commands.specs.Steps.Steps.{Done, Ask}
use Rattle.fsc_session.specs.Rotation.{rotation_steps}

-- each call answered by the mount that the calls before it leave
abbrev pub serial_entries : {A : Type 0} → PlainMount → Steps A → History
serial_entries m (Done value) = []
serial_entries m (Ask who call next) =
    entry who call (answer_of m who call).reply
    ∷ serial_entries (answer_of m who call).mount (next (answer_of m who call).reply)

-- the history of a script, a function of script and seed alone
abbrev pub serial_history : List ℕ → List Section → History
serial_history seed script = serial_entries empty_mount (rotation_steps seed script)
