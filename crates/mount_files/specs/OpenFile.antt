-- The file that a caller has open.
use Rattle.std.specs.Prelude.{◌≡◌, ℕ, true}
use Rattle.fsc_keys.specs.declared.file_keys.KeyKind.TheVariants.{Contents}
use Rattle.number_map.specs.Numbered.{get}
use Rattle.mount_model.specs.declared.reply.Refusal.{Refusal}
use Rattle.mount_model.specs.PlainMount.{PlainMount}
use Rattle.mount_model.specs.OpenHandles.{has_handle}
use Rattle.mount_model.specs.AnswerForms.{Answer, refusal_with}
use Rattle.mount_model.specs.FileAnswers.{at_file}
use Rattle.mount_state.specs.Represents.{Represents}
use Rattle.mount_state.specs.CachedKeys.{plain_kind}
use Rattle.mount_state.specs.declared.state.MountState.{MountState}

-- in every mount that the state represents, a call on that file is refused so
abbrev pub IsFileRefused : MountState → ℕ → ℕ → Refusal → Type 0
IsFileRefused s caller handle refusal =
    (m : PlainMount) (f : ℕ → Answer) → Represents s m → at_file m caller handle f ≡ refusal_with m refusal

-- a file of the mount that some handle is on
pub record IsOpen (m : PlainMount) (file : ℕ) : Type 0 where
  pub is_file : plain_kind (get m.nodes file) ≡ Contents
  pub held : has_handle m.handles file ≡ true

-- the state represents a mount in which the file is open
pub record HasOpen (s : MountState) (file : ℕ) : Type 0 where
  pub mount : PlainMount
  pub represents : Represents s mount
  pub is_open : IsOpen mount file
