-- What words are read as: each value is read from its own spelling, and from nothing else.
use Rattle.std.proofs.Common.{◌≡◌, ℕ, ◌^◌, ◌*◌, ◌<◌, ◌≤◌, ◌==◌, Bool, true, ◌&&◌, List, length, Option, Some, None, refl, ap, subst, arith}
use Rattle.std.specs.Prelude.{nat_le, nat_lt}
use Rattle.std.specs.List.{list_all}
use Rattle.std.specs.Result.{result_ok}
use Rattle.std.specs.Str.Parse.{digits_value}
use Rattle.std.specs.Option.{option_map}
use Rattle.std.proofs.lemmas.Option.{same_Some}
use Rattle.std.proofs.lemmas.Bool.{and_parts, eq-eqb, le-leb, leb-true, ltb-true}
use Rattle.hex.specs.Hex.{decode_of, encode_lower, lower_digits}
use Rattle.hex.proofs.HexLemmas.{decode_of-encode_lower, decode_of-ok, length-encode_with}
use Rattle.text_words.specs.Digits.{hex_bytes, lower_hex_bytes_of_length, is_lower_hex_digit}
use Rattle.text_words.specs.Numbers.{decimal_of, is_decimal}
use Rattle.text_words.proofs.DigitLemmas.{was_ok}
use Rattle.text_words.proofs.NumberLemmas.{number_below-decimal_of, decimal_of-number_below}
use Rattle.text_words.proofs.WordLemmas.{chose, digits_are_lower, digits_found}
use Rattle.byte_words.specs.Bytes.{AreBytes}
use Rattle.image_lines.specs.Words.{◌>>=◌, passing, number_of_word, stored_name_of_word}

-- ---- choices

-- a value that was read on
pub went_on : {A B : Type 0} (f : A → Option B) (o : Option A) (y : B) → (o >>= f) ≡ Some y → (x : A) × (o ≡ Some x) × (f x ≡ Some y)
went_on f None y h = absurd (cc h)
went_on f (Some x) y h = (x, refl, h)

-- a value that a function gave
pub was_mapped : {A B : Type 0} (f : A → B) (o : Option A) (y : B) → option_map f o ≡ Some y → (x : A) × (o ≡ Some x) × (f x ≡ y)
was_mapped f None y h = absurd (cc h)
was_mapped f (Some x) y h = (x, refl, same_Some (f x) y h)

-- a value that passed
pub passed : {A : Type 0} (test : A → Bool) (o : Option A) (y : A) → (o >>= passing test) ≡ Some y → (o ≡ Some y) × (test y ≡ true)
passed test None y h = absurd (cc h)
passed test (Some x) y h =
    let parts = chose (test x) (Some x) y h in
    (parts.1, subst (λ z. test z ≡ true) (same_Some x y parts.1) parts.0)

pub passes : {A : Type 0} (test : A → Bool) (o : Option A) (x : A) → o ≡ Some x → test x ≡ true → (o >>= passing test) ≡ Some x
passes test o x is fits = rw (is, fits) refl

-- ---- stored bytes

pub stored_found : (word bytes : List ℕ) → stored_name_of_word word ≡ Some bytes → (word ≡ encode_lower bytes) × AreBytes bytes × (length bytes ≤ 255)
stored_found word bytes h =
    let taken = chose (list_all is_lower_hex_digit word && nat_le (length word) 510) (hex_bytes word) bytes h in
    let parts = and_parts (list_all is_lower_hex_digit word) (nat_le (length word) 510) taken.0 in
    let ok = decode_of-ok word bytes (was_ok (decode_of word) bytes taken.1) in
    let size : (length word == 2 * length bytes) ≡ true = eq-eqb (length word) (2 * length bytes) ok.2 in
    let sized : lower_hex_bytes_of_length (length bytes) word ≡ Some bytes = rw (parts.0, size) taken.1 in
    let short : length word ≤ 510 = leb-true (length word) 510 parts.1 in
    ((digits_found (length bytes) word bytes sized).0, ok.3, omega (arith, ok.2))

pub stored_again : (bytes : List ℕ) → AreBytes bytes → length bytes ≤ 255 → stored_name_of_word (encode_lower bytes) ≡ Some bytes
stored_again bytes are short =
    let size : length (encode_lower bytes) ≡ 2 * length bytes = length-encode_with lower_digits bytes in
    let fits : nat_le (length (encode_lower bytes)) 510 ≡ true = le-leb (length (encode_lower bytes)) 510 (omega (arith, size)) in
    rw (digits_are_lower bytes are, fits) (ap result_ok (decode_of-encode_lower bytes are))

-- ---- numbers

pub number_again : (n : ℕ) → n < 2 ^ 32 → number_of_word (decimal_of n) ≡ Some n
number_again n small = number_below-decimal_of (2 ^ 32) n small (omega arith)

pub number_found : (word : List ℕ) (n : ℕ) → number_of_word word ≡ Some n → (word ≡ decimal_of n) × (n < 2 ^ 32)
number_found word n h =
    let taken = chose (is_decimal word && nat_lt (digits_value 10 word) (2 ^ 32)) (Some (digits_value 10 word)) n h in
    let parts = and_parts (is_decimal word) (nat_lt (digits_value 10 word) (2 ^ 32)) taken.0 in
    let below : digits_value 10 word < 2 ^ 32 = ltb-true (digits_value 10 word) (2 ^ 32) parts.1 in
    let same : digits_value 10 word ≡ n = same_Some (digits_value 10 word) n taken.1 in
    (decimal_of-number_below (2 ^ 32) word n (omega arith) h, subst (λ m. m < 2 ^ 32) same below)
