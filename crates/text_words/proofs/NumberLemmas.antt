-- A text is a numeral of a number exactly when it is what `decimal_of` writes of it.
use Rattle.std.proofs.Common.{◌≡◌, ℕ, zero, suc, ◌^◌, ◌<◌, ◌≤◌, ◌*◌, ◌+◌, ◌-◌, ◌==◌, Bool, true, false, ◌&&◌, ◌||◌, not, List, [], ◌∷◌, length, get_or, take, Option, Some, None, refl, sym, ap, ◌∙◌, arith, rules}
use Rattle.std.specs.Prelude.{nat_lt, IfSome, slice_index, if◌then◌else◌}
use Rattle.std.specs.List.{list_all}
use Rattle.std.specs.Char.{digit_value, is_ascii_digit}
use Rattle.std.specs.Str.Parse.{AllDigits, digits_value}
use Rattle.std.proofs.lemmas.Bool.{and_parts, and_from, lt-ltb, ltb-true}
use Rattle.std.proofs.lemmas.Bool.Decides.{nat_tests}
use Rattle.std.proofs.lemmas.Int.Digits.{digits_value_more}
use Rattle.std.proofs.lemmas.Fmt.{decimal_is_IsNumeral, decimal-digits_value, decimal_digit, first_decimal}
use Rattle.std.proofs.lemmas.Str.Parse.{IsNumeralModel, numerals_by_value, digits_value-take-le}
use Rattle.text_words.specs.Numbers.{decimal_of, IsDecimal, is_decimal, number_below}

digits_by_value : IsNumeralModel (AllDigits 10) (digits_value 10)
digits_by_value = numerals_by_value (AllDigits 10) (search rules)

digit_value-small : (c : ℕ) → is_ascii_digit c ≡ true → digit_value c < 10
digit_value-small c h = grind (arith, nat_tests)

is_ascii_digit-from_value : (c : ℕ) → digit_value c < 10 → is_ascii_digit c ≡ true
is_ascii_digit-from_value c h = grind (arith, nat_tests)

-- digits by the test of each byte are digits by their values
AllDigits-from_test : (text : List ℕ) → list_all is_ascii_digit text ≡ true → AllDigits 10 text
AllDigits-from_test [] h = tt
AllDigits-from_test (c ∷ cs) h =
    let parts = and_parts (is_ascii_digit c) (list_all is_ascii_digit cs) h in
    (digit_value-small c parts.0, AllDigits-from_test cs parts.1)

test-from_AllDigits : (text : List ℕ) → AllDigits 10 text → list_all is_ascii_digit text ≡ true
test-from_AllDigits [] h = refl
test-from_AllDigits (c ∷ cs) h = and_from _ _ (is_ascii_digit-from_value c h.0) (test-from_AllDigits cs h.1)

-- what a digit of a text is
pub digit_at : (text : List ℕ) (i : ℕ) → list_all is_ascii_digit text ≡ true → i < length text
    → (48 ≤ get_or text i 0) × (get_or text i 0 ≤ 57)
digit_at [] i h lt = absurd (omega arith)
digit_at (c ∷ cs) zero h lt = bounds c (and_parts (is_ascii_digit c) (list_all is_ascii_digit cs) h).0
  where
    bounds : (c : ℕ) → is_ascii_digit c ≡ true → (48 ≤ c) × (c ≤ 57)
    bounds c h = (grind (arith, nat_tests), grind (arith, nat_tests))
digit_at (c ∷ cs) (suc i) h lt = digit_at cs i (and_parts (is_ascii_digit c) (list_all is_ascii_digit cs) h).1 (omega arith)

-- one digit more
pub digits_value-more : (text : List ℕ) (i : ℕ) → list_all is_ascii_digit text ≡ true → i < length text
    → digits_value 10 (take (i + 1) text) ≡ digits_value 10 (take i text) * 10 + (get_or text i 0 - 48)
digits_value-more text i h lt =
    digits_value_more 10 text i lt ∙ ap (λ d. digits_value 10 (take i text) * 10 + d) (plain (get_or text i 0) (digit_at text i h lt).0 (digit_at text i h lt).1)
  where
    plain : (c : ℕ) → 48 ≤ c → c ≤ 57 → digit_value c ≡ c - 48
    plain c low high = grind (arith, nat_tests)

-- if the number has grown too large, it stays so
pub digits_value-large : (text : List ℕ) (i top : ℕ) → list_all is_ascii_digit text ≡ true → i < length text
    → top ≤ digits_value 10 (take i text) * 10 + (get_or text i 0 - 48) → top ≤ digits_value 10 text
digits_value-large text i top h lt large =
    omega (arith, digits_value-more text i h lt, digits_value-take-le 10 text (i + 1) (omega arith))

no_zero-from_test : (first len : ℕ) → (not (first == 48) || len == 1) ≡ true → first ≡ 48 → len ≡ 1
no_zero-from_test first len h e = grind (arith, nat_tests)

test-from_no_zero : (first len : ℕ) → (first ≡ 48 → len ≡ 1) → (not (first == 48) || len == 1) ≡ true
test-from_no_zero first len h = grind (arith, nat_tests)

-- what the test of a numeral means
pub IsDecimal-from_test : (text : List ℕ) → is_decimal text ≡ true → IsDecimal text (digits_value 10 text)
IsDecimal-from_test text h =
    let parts = and_parts (nat_lt 0 (length text) && list_all is_ascii_digit text) _ h in
    let front = and_parts (nat_lt 0 (length text)) (list_all is_ascii_digit text) parts.0 in
    record {
      numeral = (ltb-true 0 (length text) front.0, AllDigits-from_test text front.1);
      no_leading_zero = no_zero-from_test (slice_index text 0) (length text) parts.1;
      value = refl;
    }

pub test-from_IsDecimal : (text : List ℕ) (n : ℕ) → IsDecimal text n → is_decimal text ≡ true
test-from_IsDecimal text n h =
    and_from _ _ (and_from _ _ (lt-ltb _ _ h.numeral.0) (test-from_AllDigits text h.numeral.1))
    (test-from_no_zero (slice_index text 0) (length text) h.no_leading_zero)

-- a numeral is what `decimal_of` writes
pub decimal_of-from_IsDecimal : (text : List ℕ) (n : ℕ) → n < 2 ^ 64 → IsDecimal text n → text ≡ decimal_of n
decimal_of-from_IsDecimal text n small h =
    let back : decimal_of (digits_value 10 text) ≡ text =
    decimal-digits_value digits_by_value text h.numeral.1 h.numeral.0 h.no_leading_zero (let e = h.value in omega arith) in
    sym (ap decimal_of (sym h.value) ∙ back)

-- and what `decimal_of` writes is a numeral
pub IsDecimal-decimal_of : (n : ℕ) → n < 2 ^ 64 → IsDecimal (decimal_of n) n
IsDecimal-decimal_of n small =
    let numeral = decimal_is_IsNumeral n small in
    record { numeral = numeral.0; no_leading_zero = leads n small; value = numeral.1 }
  where
    leads : (n : ℕ) → n < 2 ^ 64 → slice_index (decimal_of n) 0 ≡ 48 → length (decimal_of n) ≡ 1
    leads zero small e = ap length (decimal_digit 0 (omega arith))
    leads (suc n) small e = absurd (omega (arith, first_decimal (suc n) (omega arith) small))

-- the number below a limit of which the text is the numeral
pub number_below-decimal_of : (limit n : ℕ) → n < limit → n < 2 ^ 64 → number_below limit (decimal_of n) ≡ Some n
number_below-decimal_of limit n lt small =
    let h = IsDecimal-decimal_of n small in
    let value = h.value in
    let below : nat_lt (digits_value 10 (decimal_of n)) limit ≡ true = lt-ltb _ _ (omega (arith, value)) in
    chosen _ _ (and_from _ _ (test-from_IsDecimal (decimal_of n) n h) below) ∙ ap Some value
  where
    chosen : (b : Bool) (x : ℕ) → b ≡ true → (let o : Option ℕ = if b then Some x else None in o ≡ Some x)
    chosen b x h = rw h refl

pub decimal_of-number_below : (limit : ℕ) (text : List ℕ) (n : ℕ) → limit ≤ 2 ^ 64 → number_below limit text ≡ Some n → text ≡ decimal_of n
decimal_of-number_below limit text n top h =
    let value = digits_value 10 text in
    let taken = chosen (is_decimal text && nat_lt value limit) value n h in
    let parts = and_parts (is_decimal text) (nat_lt value limit) taken.0 in
    let small = ltb-true value limit parts.1 in
    decimal_of-from_IsDecimal text value (omega arith) (IsDecimal-from_test text parts.0) ∙ ap decimal_of taken.1
  where
    chosen : (b : Bool) (x n : ℕ) → (let o : Option ℕ = if b then Some x else None in o ≡ Some n) → (b ≡ true) × (x ≡ n)
    chosen true x n h = (refl, cc)
    chosen false x n h = absurd (cc h)

-- what the result of a reader of numbers below the limit means
pub numeral_of : (limit : ℕ) (text : List ℕ) (o : Option ℕ) → limit ≤ 2 ^ 64 → o ≡ number_below limit text
    → IfSome o (λ n. text ≡ decimal_of n)
numeral_of limit text None top h = tt
numeral_of limit text (Some n) top h = decimal_of-number_below limit text n top (sym h)

pub every_numeral : (limit : ℕ) (text : List ℕ) (o : Option ℕ) → limit ≤ 2 ^ 64 → o ≡ number_below limit text
    → (n : ℕ) → n < limit → text ≡ decimal_of n → o ≡ Some n
every_numeral limit text o top h n lt e = h ∙ ap (number_below limit) e ∙ number_below-decimal_of limit n lt (omega arith)
