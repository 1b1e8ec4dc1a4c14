-- The text of a protector's record: seven lines, with one space between words.
use Rattle.std.specs.Prelude.{ℕ, ◌≡◌, List, [], ◌∷◌, ◌++◌, codes}
use Rattle.hex.specs.Hex.{encode_lower}
use Rattle.text_words.specs.Numbers.{decimal_of}
use Rattle.short_bytes.specs.Label.{IsLabel}
use Rattle.argon_kdf.specs.declared.costs.Costs.{Costs}
use Rattle.protector_meta.specs.Descriptor.{IsDescriptor}
use Rattle.protector_meta.specs.Stretching.{IsStretching}
use Rattle.text_words.specs.Lines.{ended}
use Rattle.byte_words.specs.Bytes.{AreBytesOfLength}
use Rattle.protector_meta.specs.declared.protector.ProtectorKind.{ProtectorKind}
use Rattle.protector_meta.specs.declared.protector.ProtectorKind.TheVariants.{Raw, Pass}
use Rattle.protector_meta.specs.declared.protector.Protector.{Protector}

-- the costs in the order passes, KiB, lanes, and the salt in 32 digits
abbrev pub stretching_text : Costs × List ℕ → List ℕ
stretching_text (costs, salt) =
    decimal_of costs.passes ++ 32 ∷ (decimal_of costs.kib
    ++ 32 ∷ (decimal_of costs.lanes ++ 32 ∷ encode_lower salt))

-- `raw`, or `pass` and how the passphrase is stretched
abbrev pub kind_text : ProtectorKind → List ℕ
kind_text Raw = codes "raw"
kind_text (Pass stretching) = codes "pass " ++ stretching_text stretching

-- the lines, in digits of lower case
abbrev pub protector_lines : Protector → List (List ℕ)
protector_lines p =
    codes "fsc-protector 1"
    ∷ (codes "name " ++ p.name)
    ∷ (codes "kind " ++ kind_text p.kind)
    ∷ (codes "descriptor " ++ p.descriptor)
    ∷ (codes "iv " ++ encode_lower p.iv)
    ∷ (codes "key " ++ encode_lower p.key)
    ∷ (codes "tag " ++ encode_lower p.tag)
    ∷ []

-- each of the lines is ended by a line feed
unfoldable pub protector_text : Protector → List ℕ
protector_text p = ended (protector_lines p)

-- a raw secret, or a passphrase with a stretching that a record can spell
abbrev pub IsKind : ProtectorKind → Type 0
IsKind Raw = Unit {0}
IsKind (Pass stretching) = IsStretching stretching

-- what the types of the fields guarantee for every protector: all that a record needs
pub record IsProtector (p : Protector) : Type 0 where
  pub name : IsLabel p.name
  pub kind : IsKind p.kind
  pub descriptor : IsDescriptor p.descriptor
  pub iv : AreBytesOfLength 16 p.iv
  pub key : AreBytesOfLength 32 p.key
  pub tag : AreBytesOfLength 32 p.tag

-- these are the lines of a protector's record
abbrev pub IsProtectorRecord : List (List ℕ) → Type 0
IsProtectorRecord lines = (p : Protector) × (IsProtector p × (lines ≡ protector_lines p))
