-- Decimal numbers as text: digits alone, and no zero in front but in the number zero.
use Rattle.std.specs.Prelude.{ℕ, ◌≡◌, Bool, ◌&&◌, ◌||◌, not, nat_lt, ◌==◌, List}
use Rattle.std.specs.Prelude.{length, slice_index, Option, Some, None, if◌then◌else◌}
use Rattle.std.specs.Fmt.{decimal}
use Rattle.std.specs.List.{list_all}
use Rattle.std.specs.Char.{is_ascii_digit}
use Rattle.std.specs.Str.Parse.{IsNumeral, digits_value}

-- the decimal numeral of a number below 10 ^ 64
abbrev pub decimal_of : ℕ → List ℕ
decimal_of n = decimal n

-- the text is a numeral of the number n: one digit or more, of which the first is 0 only if it is the only
-- one
pub record IsDecimal (text : List ℕ) (n : ℕ) : Type 0 where
  pub numeral : IsNumeral 10 text
  pub no_leading_zero : slice_index text 0 ≡ 48 → length text ≡ 1
  pub value : digits_value 10 text ≡ n

-- whether the text is a numeral at all
abbrev pub is_decimal : List ℕ → Bool
is_decimal text =
    nat_lt 0 (length text) && list_all is_ascii_digit text
    && (not (slice_index text 0 == 48) || length text == 1)

-- the number below the limit whose numeral the text is
abbrev pub number_below : ℕ → List ℕ → Option ℕ
number_below limit text =
    if is_decimal text && nat_lt (digits_value 10 text) limit then Some (digits_value 10 text) else None
