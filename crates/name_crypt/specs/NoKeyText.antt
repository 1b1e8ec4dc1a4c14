-- The text by which a stored name is shown and found if its key is absent (Linux, `struct
-- fscrypt_nokey_name`).
use Rattle.std.specs.Prelude.{◌≡◌, ◌↔◌, ℕ, Option, Some, List, ◌++◌, length, take, drop, replicate}
use Rattle.std.specs.Prelude.{nat_le, if◌then◌else◌}
use Rattle.sha2.specs.Sha256.{sha256}
use Rattle.base64.specs.GeneralPurpose.{encode_of}
use Rattle.base64.specs.Engines.{url_safe_no_pad}
use Rattle.byte_words.specs.Bytes.{AreBytes}
use Rattle.name_crypt.specs.declared.limits.TheConstants.{MAX_SPELLED_BYTES}

-- the stored name whole up to 149 bytes, and otherwise its first 149 bytes and the SHA-256 of the others
abbrev pub visible_bytes : List ℕ → List ℕ
visible_bytes stored =
    if nat_le (length stored) MAX_SPELLED_BYTES then stored
    else take MAX_SPELLED_BYTES stored ++ sha256 (drop MAX_SPELLED_BYTES stored)

-- base64url without padding, of two little-endian words of 32 bits that are 0, followed by these bytes
abbrev pub nokey_text_of : List ℕ → List ℕ
nokey_text_of stored = encode_of url_safe_no_pad (replicate 8 0 ++ visible_bytes stored)

-- the stored names with this text are exactly those with these shown bytes
abbrev pub HasVisibleBytes : List ℕ → Option (List ℕ) → Type 0
HasVisibleBytes text shown = (stored : List ℕ) → AreBytes stored
    → (text ≡ nokey_text_of stored) ↔ (shown ≡ Some (visible_bytes stored))
