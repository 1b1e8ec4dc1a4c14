-- The words for secrets: `raw:` and 64 digits, or `pass:` and a passphrase.
use Rattle.std.specs.Prelude.{ℕ, ◌≡◌, ◌++◌, nat_eq, List, length, drop, codes, Option, None, if◌then◌else◌}
use Rattle.std.specs.List.{starts_with}
use Rattle.std.specs.Option.{option_map}
use Rattle.hex.specs.Hex.{IsBytes, encode_lower}
use Rattle.text_words.specs.Digits.{hex_bytes_of_length}
use Rattle.script_words.specs.Word.{IsWord, word_bytes, word_text}
use Rattle.script_words.specs.declared.limits.TheConstants.{RAW_SECRET_BYTES}
use Rattle.script_words.specs.declared.secrets.Secret.{Secret}
use Rattle.script_words.specs.declared.secrets.Secret.TheVariants as old

-- a raw secret
abbrev pub raw_secret_of : List ℕ → Option (List ℕ)
raw_secret_of digits = hex_bytes_of_length RAW_SECRET_BYTES digits

-- a secret: `raw:` and its digits, or `pass:` and a passphrase
abbrev pub secret_of : List ℕ → Option Secret
secret_of word =
    if starts_with nat_eq word (codes "raw:") then option_map old.Raw (raw_secret_of (drop 4 word))
    else if starts_with nat_eq word (codes "pass:") then option_map old.Pass (word_bytes (drop 5 word))
    else None

abbrev pub secret_text : Secret → List ℕ
secret_text (old.Raw raw) = codes "raw:" ++ encode_lower raw
secret_text (old.Pass passphrase) = codes "pass:" ++ word_text passphrase

-- 32 bytes
abbrev pub IsRawSecret : List ℕ → Type 0
IsRawSecret raw = (length raw ≡ RAW_SECRET_BYTES) × IsBytes raw

-- 32 bytes, or a passphrase of 1 to 1,000
abbrev pub IsSecret : Secret → Type 0
IsSecret (old.Raw raw) = IsRawSecret raw
IsSecret (old.Pass passphrase) = IsWord passphrase
