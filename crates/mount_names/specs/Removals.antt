-- What the calls that take a name away leave, at the entry that was found.
use Rattle.std.specs.Prelude.{◌≡◌, ℕ, true, false, Ok}
use Rattle.plain_tree.specs.Nodes.{Name}
use Rattle.plain_tree.specs.NodesByNumber.{entry}
use Rattle.std.specs.Prelude.{Some}
use Rattle.mount_model.specs.declared.reply.Reply.{Reply}
use Rattle.mount_model.specs.PlainMount.{PlainMount}
use Rattle.mount_model.specs.UnlinkAnswers.{without_name, answer_to_unlink, answer_to_rmdir}
use Rattle.mount_model.specs.States.{is_keyed}
use Rattle.mount_model.specs.Walk.{PathParts}
use Rattle.mount_model.specs.EntryPaths.{is_root, last_part}
use Rattle.mount_model.specs.WellFormed.{IsWellFormed}
use Rattle.mount_state.specs.Represents.{Represents}
use Rattle.mount_state.specs.declared.state.MountState.{MountState}
use Rattle.mount_names.specs.Places.{Entry}
use Rattle.mount_names.specs.FoundEntries.{form_in, entry_end}
use Rattle.mount_state.specs.AnswerOf.{IsAnswerOf}

-- in the mount the entry is this name's
pub record IsEntryOf (m : PlainMount) (name : Name) (e : Entry) : Type 0 where
  pub there : entry m.nodes e.dir name ≡ Some e.number
  pub stored : e.stored ≡ form_in m e.dir name

-- if the directory is keyed, the part by which its name was found is the name
abbrev pub IsFoundBy : PlainMount → ℕ → Name → Name → Type 0
IsFoundBy m dir part name = is_keyed m dir ≡ true → part ≡ name

-- the state represents the mount without the name, which was found by this part
abbrev pub Drops : MountState → MountState → Entry → Name → Type 0
Drops old new e part = (m : PlainMount) (name : Name) → Represents old m → IsEntryOf m name e
    → IsFoundBy m e.dir part name → IsWellFormed (without_name m e.dir name e.number)
    → Represents new (without_name m e.dir name e.number)

-- the entry at the end of the path, whose last part is this, is dropped, as the call answers
abbrev pub Unlinks : MountState → MountState → Entry → Name → Reply → Type 0
Unlinks old new e part reply = (m : PlainMount) (path : PathParts) → Represents old m → is_root path ≡ false
    → Ok e ≡ entry_end false m path → part ≡ last_part path → IsWellFormed (answer_to_unlink m path).mount
    → IsAnswerOf (answer_to_unlink m path) reply new

abbrev pub RemovesDir : MountState → MountState → Entry → Name → Reply → Type 0
RemovesDir old new e part reply = (m : PlainMount) (path : PathParts) → Represents old m
    → is_root path ≡ false
    → Ok e ≡ entry_end false m path → part ≡ last_part path → IsWellFormed (answer_to_rmdir m path).mount
    → IsAnswerOf (answer_to_rmdir m path) reply new
