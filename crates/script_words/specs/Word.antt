-- Words of a script: characters from `!` to `~`, in which `%` and two hexadecimal digits are the byte
-- that they spell.
use Rattle.std.specs.Prelude.{ℕ, ◌<◌, ◌≤◌, ◌==◌, Bool, true, false, not, ◌&&◌, ◌||◌, nat_le}
use Rattle.std.specs.Prelude.{List, [], ◌∷◌, length, Option, Some, None, if◌then◌else◌}
use Rattle.std.specs.List.{All, list_all, list_any, flat_map}
use Rattle.std.specs.Char.{is_ascii_graphic, is_ascii_hexdigit, is_ascii_alphanumeric}
use Rattle.percent_encoding.specs.Percent.{percent_decode, percent_encode_byte}
use Rattle.script_words.specs.declared.limits.TheConstants.{MAX_WORD_BYTES}

-- whether the text begins with two hexadecimal digits, of either case
abbrev pub begins_with_two_digits : List ℕ → Bool
begins_with_two_digits [] = false
begins_with_two_digits (a ∷ []) = false
begins_with_two_digits (a ∷ b ∷ rest) = is_ascii_hexdigit a && is_ascii_hexdigit b

-- whether two hexadecimal digits follow each `%`
abbrev pub has_whole_escapes : List ℕ → Bool
has_whole_escapes [] = true
has_whole_escapes (c ∷ rest) = (not (c == 37) || begins_with_two_digits rest) && has_whole_escapes rest

-- whether the characters are from 0x21 to 0x7e, and two digits follow each `%`
abbrev pub is_word_text : List ℕ → Bool
is_word_text text = list_all is_ascii_graphic text && has_whole_escapes text

-- the bytes, if they are 1 to 1,000
abbrev pub sized_word : List ℕ → Option (List ℕ)
sized_word bytes =
    if nat_le 1 (length bytes) && nat_le (length bytes) MAX_WORD_BYTES then Some bytes else None

-- the bytes that a text spells as a word: each `%` and its digits are one byte, every other character
-- is itself
unfoldable pub word_bytes : List ℕ → Option (List ℕ)
word_bytes text = if is_word_text text then sized_word (percent_decode text) else None

-- whether the bytes may be a symlink's target: none is NUL
abbrev pub may_be_target : List ℕ → Bool
may_be_target bytes = not (list_any (λ b. b == 0) bytes)

-- the bytes, if they pass the test
abbrev pub passing : (List ℕ → Bool) → Option (List ℕ) → Option (List ℕ)
passing test None = None
passing test (Some bytes) = if test bytes then Some bytes else None

-- the bytes that a text spells as a symlink's target
unfoldable pub target_bytes : List ℕ → Option (List ℕ)
target_bytes text = passing may_be_target (word_bytes text)

-- whether the byte is written as it is: a letter, a digit, `-`, `.`, `_` or `~`
abbrev pub is_plain_character : ℕ → Bool
is_plain_character b = is_ascii_alphanumeric b || (b == 45 || (b == 46 || (b == 95 || b == 126)))

-- a byte as it is, or as `%` and two upper-case digits
abbrev pub byte_text : ℕ → List ℕ
byte_text b = if is_plain_character b then b ∷ [] else percent_encode_byte b

-- the text in which bytes are written as a word
unfoldable pub word_text : List ℕ → List ℕ
word_text bytes = flat_map byte_text bytes

-- what a word may spell: 1 to 1,000 bytes
pub record IsWord (bytes : List ℕ) : Type 0 where
  pub nonempty : 1 ≤ length bytes
  pub bounded : length bytes ≤ MAX_WORD_BYTES
  pub ranged : All (λ b. b < 256) bytes
