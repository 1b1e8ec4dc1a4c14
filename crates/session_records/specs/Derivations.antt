-- Bytes derived from a seed, for what the commands of a script make.
use Rattle.std.specs.Prelude.{◌≡◌, ℕ, ◌+◌, ◌*◌, ◌%◌, ◌^◌, ◌<◌, List, [], ◌∷◌, ◌++◌, take, codes}
use Rattle.byte_words.specs.Bytes.{AreBytesOfLength}
use Rattle.byte_words.specs.Numbers.{little_endian_bytes}
use Rattle.hmac_kdf.specs.Hkdf.{hkdf_sha512}
use Rattle.session_records.specs.declared.derivations.Purpose.{Purpose}
use Rattle.session_records.specs.declared.derivations.Purpose.TheVariants.{NonceOrKey, Iv, Salt}
use Rattle.session_records.specs.declared.derivations.TheConstants.{NONCE_BYTES}

-- a number below 16 for each purpose
abbrev pub purpose_number : Purpose → ℕ
purpose_number NonceOrKey = 0
purpose_number Iv = 1
purpose_number Salt = 2

-- the info of a derivation: `fsc draw`, the caller's byte, and 16 times the command's number in its
-- section, plus the purpose's, in 8 bytes, the lowest first
abbrev pub hkdf_info : ℕ → ℕ → Purpose → List ℕ
hkdf_info caller command purpose =
    codes "fsc draw" ++ caller ∷ little_endian_bytes 8 (16 * command + purpose_number purpose)

-- the caller's byte: the lowest of its number, and so each caller of a script has its own
abbrev pub caller_byte : ℕ → ℕ
caller_byte caller = caller % 256

-- 64 bytes of HKDF-SHA512 (RFC 5869) without salt, of which the seed is the key material; fewer derived
-- bytes are the first of them
unfoldable pub drawn_bytes : List ℕ → ℕ → ℕ → Purpose → List ℕ
drawn_bytes seed caller command purpose = hkdf_sha512 [] seed (hkdf_info caller command purpose) 64

-- the nonce that a caller's command of this number derives for what it makes
unfoldable pub derived_nonce : List ℕ → ℕ → ℕ → List ℕ
derived_nonce seed caller number = take NONCE_BYTES (drawn_bytes seed (caller_byte caller) number NonceOrKey)

-- it is 16 bytes
abbrev pub DerivedNoncesAreBytes : Type 0
DerivedNoncesAreBytes =
    (seed : List ℕ) (caller number : ℕ) → AreBytesOfLength 16 (derived_nonce seed caller number)

-- the first `count` of the bytes that a caller's command of this number derives
unfoldable pub first_drawn : ℕ → List ℕ → ℕ → ℕ → Purpose → List ℕ
first_drawn count seed caller number purpose =
    take count (drawn_bytes seed (caller_byte caller) number purpose)

-- derivations with one info have one caller, command and purpose, if the commands are below 2^32
abbrev pub DerivationsAreDistinct : Type 0
DerivationsAreDistinct =
    (caller other_caller command other_command : ℕ) (purpose other_purpose : Purpose)
    → command < 2 ^ 32 → other_command < 2 ^ 32
    → hkdf_info caller command purpose ≡ hkdf_info other_caller other_command other_purpose
    → (caller ≡ other_caller) × (command ≡ other_command) × (purpose ≡ other_purpose)
