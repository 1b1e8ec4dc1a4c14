-- The image of the mount that a run of a script leaves.
use Rattle.std.specs.Prelude.{◌≡◌, ℕ, List}
use Rattle.mount_model.specs.History.{History, NeverOutOfMemory, mount_after}
use Rattle.mount_model.specs.Lawful.{IsLawful, KeysAgree}
use Rattle.mount_model.specs.WellFormed.{IsWellFormed}
use Rattle.script_lang.specs.declared.commands.Section.{Section}
use Rattle.mount_state.specs.declared.state.MountState.{MountState}
use Rattle.mount_shared.specs.IsStateAfter.{IsStateAfter}
use Rattle.reply_text.specs.Logged.{PlacedLogged}
use Rattle.reply_text.specs.declared.notes.Note.{Note}
use Rattle.image_lines.specs.ImageText.{image_text}
use Rattle.tree_image.specs.Images.{mount_image}
use Rattle.listing_laws.specs.Laws.{HasNonces}
use Rattle.fsc_session.specs.Serial.{serial_history}
use Rattle.script_runs.specs.Runs.{IsRunBefore, IsSerialRun, IsLogOf}

-- the text of the image of the mount that a history leaves
abbrev pub image_after : History → List ℕ
image_after history = image_text (mount_image (mount_after history))

-- the entries and notes of a run in rotation on a mount of its own, and the state in which it left that
-- mount
abbrev pub RanOnMount : List ℕ → List Section → PlacedLogged → List Note → MountState → Type 0
RanOnMount seed script placed notes state =
    IsLogOf (IsRunBefore (λ history.
    IsStateAfter history state) (IsSerialRun IsLawful)) seed script placed notes

-- the history is a run of the script in rotation in which no call was out of memory, and the text is the
-- image of the mount that it leaves
pub record IsImageAfter (seed : List ℕ) (script : List Section) (history : History) (text : List ℕ)
    : Type 0 where
  pub run : IsSerialRun IsLawful seed script history
  pub no_out_of_memory : NeverOutOfMemory history
  pub image : text ≡ image_after history
  -- the mount is well-formed, as the laws of listings require
  pub well : IsWellFormed (mount_after history)
  pub nonces : HasNonces (mount_after history).nodes

-- the text is the image that the script's own history leaves, a function of script and seed, if no two
-- different raw keys that this history adds share an identifier
abbrev pub IsImageOfRun : List ℕ → List Section → List ℕ → Type 0
IsImageOfRun seed script text =
    KeysAgree (serial_history seed script) → IsImageAfter seed script (serial_history seed script) text
