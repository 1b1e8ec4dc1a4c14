-- A name that moves: its new place, and what is left.
use Rattle.std.specs.Prelude.{◌≡◌, None, Ok}
use Rattle.plain_tree.specs.Nodes.{Name}
use Rattle.mount_model.specs.declared.reply.Reply.{Reply}
use Rattle.mount_model.specs.PlainMount.{PlainMount}
use Rattle.mount_model.specs.AnswerForms.{done}
use Rattle.mount_model.specs.RenameAnswer.{with_moved, answer_to_move_from}
use Rattle.mount_model.specs.MoveRefusal.{move_refusal}
use Rattle.mount_model.specs.Walk.{PathParts}
use Rattle.mount_model.specs.EntryPaths.{last_part, parent, is_at_or_above}
use Rattle.mount_model.specs.WellFormed.{IsWellFormed}
use Rattle.mount_model.specs.Carried.{IsPath}
use Rattle.mount_state.specs.Represents.{Represents}
use Rattle.mount_state.specs.declared.state.MountState.{MountState}
use Rattle.mount_names.specs.Places.{Entry, Place}
use Rattle.mount_state.specs.AnswerOf.{IsAnswerOrNoMemory, IsExpectedRefusal}
use Rattle.mount_names.specs.NewPlaces.{IsNewName}
use Rattle.mount_names.specs.Removals.{IsEntryOf, IsFoundBy}

-- ---- its new place

-- the place is the one of the path's last part, and nothing is against the entry's coming there
pub record IsTargetAt (m : PlainMount) (e : Entry) (path : PathParts) (place : Place) : Type 0 where
  pub led : parent m path ≡ Ok place.dir
  pub named : IsNewName m place.dir (last_part path) place
  pub free : move_refusal m e.dir e.number place.dir (is_at_or_above m e.number path) (last_part path) ≡ None

-- ---- what is left

-- the entry, whose name was found by this part, is moved to the place
abbrev pub Moves : MountState → MountState → Entry → Name → Place → Reply → Type 0
Moves old new e part place reply = (m : PlainMount) (name new_name : Name) → Represents old m
    → IsEntryOf m name e → IsFoundBy m e.dir part name → IsNewName m place.dir new_name place
    → IsWellFormed (with_moved m e.dir name place.dir new_name e.number)
    → IsAnswerOrNoMemory m (done (with_moved m e.dir name place.dir new_name e.number)) reply new

-- the entry is moved to the end of the path, as the call answers
abbrev pub Renames : MountState → MountState → Entry → Name → PathParts → Reply → Type 0
Renames old new e part path reply = (m : PlainMount) (name : Name) → Represents old m → IsPath path
    → IsEntryOf m name e → IsFoundBy m e.dir part name
    → IsWellFormed (answer_to_move_from m path e.dir name e.number).mount
    → IsAnswerOrNoMemory m (answer_to_move_from m path e.dir name e.number) reply new

-- if the mount refuses, the reply is that refusal
abbrev pub RefusesAsModel : MountState → Entry → PathParts → Reply → Type 0
RefusesAsModel old e path reply = (m : PlainMount) (name : Name) → Represents old m → IsPath path
    → IsEntryOf m name e
    → IsExpectedRefusal (answer_to_move_from m path e.dir name e.number) reply
