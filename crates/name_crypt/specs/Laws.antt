-- What holds of stored names for every key, start, padding and name, and of their no-key texts.
use Rattle.std.specs.Prelude.{◌≡◌, ◌<◌, ◌≤◌, ℕ, List, length}
use Rattle.byte_words.specs.Bytes.{AreBytes}
use Rattle.policy_ctx.specs.declared.policy.Pad.{Pad}
use Rattle.name_crypt.specs.declared.limits.TheConstants.{MAX_SPELLED_BYTES}
use Rattle.name_crypt.specs.Plain.{IsPlain, IsStored}
use Rattle.name_crypt.specs.StoredName.{stored_name, plain_name}
use Rattle.name_crypt.specs.NoKeyText.{nokey_text_of}

-- a stored name is decrypted to the name, at every length up to 255
abbrev pub NamesComeBack : Type 0
NamesComeBack =
    (key : List ℕ) (start : ℕ) (name : List ℕ) (pad : Pad) → AreBytes key → AreBytes name → IsPlain name
    → plain_name key start (stored_name key start pad name) ≡ name

-- two names with the same stored name under one key, start and padding are the same
abbrev pub NamesStayDistinct : Type 0
NamesStayDistinct =
    (key : List ℕ) (start : ℕ) (a b : List ℕ) (pad : Pad) → AreBytes key → AreBytes a → AreBytes b → IsPlain a
    → IsPlain b
    → stored_name key start pad a ≡ stored_name key start pad b → a ≡ b

-- a stored name has 16 to 255 bytes
abbrev pub StoredNamesFit : Type 0
StoredNamesFit =
    (key : List ℕ) (start : ℕ) (name : List ℕ) (pad : Pad) → IsPlain name
    → IsStored (stored_name key start pad name)

-- a stored name consists of bytes: numbers below 256
abbrev pub StoredNamesAreBytes : Type 0
StoredNamesAreBytes =
    (key : List ℕ) (start : ℕ) (name : List ℕ) (pad : Pad) → AreBytes key → AreBytes name → IsPlain name
    → AreBytes (stored_name key start pad name)

-- two stored names that are spelled whole have one text only if they are the same
abbrev pub ShortTextsStayDistinct : Type 0
ShortTextsStayDistinct =
    (a b : List ℕ) → AreBytes a → AreBytes b → length a ≤ MAX_SPELLED_BYTES → length b ≤ MAX_SPELLED_BYTES
    → nokey_text_of a ≡ nokey_text_of b → a ≡ b

-- a stored name that is spelled whole and one that isn't have different texts
abbrev pub LongTextsAreOthers : Type 0
LongTextsAreOthers = (a b : List ℕ) → length a ≤ MAX_SPELLED_BYTES → MAX_SPELLED_BYTES < length b
    → ¬ (nokey_text_of a ≡ nokey_text_of b)
