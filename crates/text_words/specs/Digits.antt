-- Hexadecimal digits as text: two for each byte, the high four bits first.
use Rattle.std.specs.Prelude.{ℕ, ◌≡◌, Bool, true, false, ◌&&◌, ◌||◌, nat_le, ◌==◌, ◌*◌}
use Rattle.std.specs.Prelude.{List, length, Option, None, if◌then◌else◌, MatchOption}
use Rattle.std.specs.List.{list_all}
use Rattle.std.specs.Result.{result_ok}
use Rattle.hex.specs.Hex.{decode_of}

-- the bytes that the digits of either case spell, if the text has two for each byte and nothing else
abbrev pub hex_bytes : List ℕ → Option (List ℕ)
hex_bytes text = result_ok (decode_of text)

-- the same, if they are to be n bytes
abbrev pub hex_bytes_of_length : ℕ → List ℕ → Option (List ℕ)
hex_bytes_of_length n text = if length text == 2 * n then hex_bytes text else None

-- whether c is a digit `0` to `9` or `a` to `f`
abbrev pub is_lower_hex_digit : ℕ → Bool
is_lower_hex_digit c = nat_le 48 c && nat_le c 57 || nat_le 97 c && nat_le c 102

-- the n bytes that digits spell, if no upper-case letter is among them
abbrev pub lower_hex_bytes_of_length : ℕ → List ℕ → Option (List ℕ)
lower_hex_bytes_of_length n text =
    if list_all is_lower_hex_digit text then hex_bytes_of_length n text else None

-- a reader answers whether there are such bytes, and writes them over the old ones; else the old ones stay
abbrev pub ReadsInto : Option (List ℕ) → List ℕ → List ℕ → Bool → Type 0
ReadsInto spelled old new answer =
    MatchOption spelled ((answer ≡ false) × (new ≡ old)) (λ bytes. (answer ≡ true) × (new ≡ bytes))
