-- The words for keys and for other bytes: hexadecimal digits of either case.
use Rattle.std.specs.Prelude.{ℕ, ◌≡◌, ◌≤◌, ◌*◌, ◌&&◌, ◌++◌, nat_le, nat_eq, List, [], length}
use Rattle.std.specs.Prelude.{drop, codes, Option, Some, None, if◌then◌else◌}
use Rattle.std.specs.List.{starts_with}
use Rattle.std.specs.Option.{option_map}
use Rattle.std.specs.Str.{bytes_eq}
use Rattle.hex.specs.Hex.{IsBytes, encode_lower}
use Rattle.text_words.specs.Digits.{hex_bytes, hex_bytes_of_length}
use Rattle.policy_ctx.specs.declared.policy.KeyId.{KeyId}
use Rattle.fsc_keys.specs.declared.raw_key.TheConstants.{MIN_RAW_KEY_BYTES, MAX_RAW_KEY_BYTES}
use Rattle.script_words.specs.declared.key_words.KeyRef.{KeyRef}
use Rattle.script_words.specs.declared.key_words.KeyRef.TheVariants.{Id, Raw}

-- the bytes that digits of either case spell, if there are from low to high of them
abbrev pub hex_of_size : ℕ → ℕ → List ℕ → Option (List ℕ)
hex_of_size low high word =
    if nat_le (2 * low) (length word) && nat_le (length word) (2 * high) then hex_bytes word else None

-- the same, from one byte on, or `-` for none
abbrev pub hex_or_none : ℕ → List ℕ → Option (List ℕ)
hex_or_none high word = if bytes_eq word (codes "-") then Some [] else hex_of_size 1 high word

-- the identifier that 32 digits spell
abbrev pub id_of : List ℕ → Option KeyId
id_of digits = option_map (λ bytes. record { 0 = bytes }) (hex_bytes_of_length 16 digits)

-- the bytes of a raw key, in digits
abbrev pub raw_key_of : List ℕ → Option (List ℕ)
raw_key_of digits = hex_of_size MIN_RAW_KEY_BYTES MAX_RAW_KEY_BYTES digits

-- a key: `id:` and its identifier in 32 digits, or `raw:` and its 32 to 64 bytes in digits
abbrev pub key_ref_of : List ℕ → Option KeyRef
key_ref_of word =
    if starts_with nat_eq word (codes "id:") then option_map Id (id_of (drop 3 word))
    else if starts_with nat_eq word (codes "raw:") then option_map Raw (raw_key_of (drop 4 word))
    else None

-- a key in lower-case digits
abbrev pub key_ref_text : KeyRef → List ℕ
key_ref_text (Id id) = codes "id:" ++ encode_lower id.0
key_ref_text (Raw raw) = codes "raw:" ++ encode_lower raw

-- bytes in lower-case digits, and `-` for none
abbrev pub hex_or_none_text : List ℕ → List ℕ
hex_or_none_text bytes = if nat_le 1 (length bytes) then encode_lower bytes else codes "-"

-- an identifier has 16 bytes, and a raw key 32 to 64
abbrev pub IsKey : KeyRef → Type 0
IsKey (Id id) = (length id.0 ≡ 16) × IsBytes id.0
IsKey (Raw raw) = (MIN_RAW_KEY_BYTES ≤ length raw) × ((length raw ≤ MAX_RAW_KEY_BYTES) × IsBytes raw)

-- at most `most` bytes
abbrev pub AreFewBytes : List ℕ → ℕ → Type 0
AreFewBytes bytes most = (length bytes ≤ most) × IsBytes bytes
