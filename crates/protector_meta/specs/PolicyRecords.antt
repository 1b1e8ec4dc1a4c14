-- What a policy's record is: the lines of a policy whose fields are those that lines can spell.
use Rattle.std.specs.Prelude.{ℕ, ◌≡◌, List}
use Rattle.std.specs.List.{All}
use Rattle.short_bytes.specs.Label.{IsLabel}
use Rattle.protector_meta.specs.declared.wraps.Wrap.{Wrap}
use Rattle.protector_meta.specs.declared.policy_file.PolicyFile.{PolicyFile}
use Rattle.byte_words.specs.Bytes.{AreBytesOfLength}
use Rattle.protector_meta.specs.Wraps.{AreWraps}
use Rattle.protector_meta.specs.PolicyText.{policy_lines}

-- what the types of the fields guarantee for every wrap: all that a line needs
pub record IsWrap (wrap : Wrap) : Type 0 where
  pub protector : IsLabel wrap.protector
  pub iv : AreBytesOfLength 16 wrap.iv
  pub key : AreBytesOfLength 64 wrap.key
  pub tag : AreBytesOfLength 32 wrap.tag

-- and for every policy: all that a record needs
pub record IsPolicyFile (p : PolicyFile) : Type 0 where
  pub name : IsLabel p.name
  pub id : AreBytesOfLength 16 p.id.0
  pub wraps : AreWraps p.wraps
  pub each : All IsWrap p.wraps

-- these are the lines of a policy's record
abbrev pub IsPolicyRecord : List (List ℕ) → Type 0
IsPolicyRecord lines = (p : PolicyFile) × (IsPolicyFile p × (lines ≡ policy_lines p))
