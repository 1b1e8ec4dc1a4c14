-- The text after a word, and the bytes that digits spell: each is read from its spelling, and from no other
-- text.
use Rattle.std.proofs.Common.{◌≡◌, ℕ, ◌<◌, ◌^◌, ◌==◌, Bool, true, false, not, ◌&&◌, List, ◌++◌, [], ◌∷◌, length, take, drop, Option, Some, None, refl, sym, ap, ◌∙◌, subst, arith}
use Rattle.std.specs.Prelude.{nat_lt, if◌then◌else◌}
use Rattle.std.specs.List.{list_all}
use Rattle.std.specs.Char.{is_ascii_digit}
use Rattle.std.specs.Str.{bytes_eq}
use Rattle.std.specs.Cmp.Lexicographic.{same_text, nat_list_eq_equiv}
use Rattle.std.proofs.lemmas.Bool.{and_parts, and_from}
use Rattle.std.proofs.lemmas.Bool.Decides.{nat_tests}
use Rattle.std.proofs.lemmas.List.{take_at, drop_at, take-append-drop}
use Rattle.std.proofs.lemmas.Option.{cond_some}
use Rattle.hex.specs.Hex.{encode_lower, IsBytes}
use Rattle.hex.proofs.HexLemmas.{decode_of-encode_lower, decode_of-ok}
use Rattle.text_words.specs.Digits.{hex_bytes_of_length, lower_hex_bytes_of_length, is_lower_hex_digit}
use Rattle.text_words.specs.Numbers.{decimal_of}
use Rattle.text_words.specs.Words.{rest_after}
use Rattle.text_words.proofs.DigitLemmas.{lower_written, lower_every, spells}
use Rattle.text_words.proofs.NumberLemmas.{test-from_IsDecimal, IsDecimal-decimal_of}
use Rattle.text_words.proofs.PieceLemmas.{is_free_of}

-- a test that chose a value
pub chose : {A : Type 0} (b : Bool) (o : Option A) (x : A) → (let r : Option A = if b then o else None in r ≡ Some x) → (b ≡ true) × (o ≡ Some x)
chose true o x h = (refl, h)
chose false o x h = absurd (cc h)

-- ---- after a word

same_bytes : (xs : List ℕ) → bytes_eq xs xs ≡ true
same_bytes xs = nat_list_eq_equiv.refl xs

pub behind_again : (word rest : List ℕ) → rest_after word (word ++ rest) ≡ Some rest
behind_again word rest =
    rw (take_at word rest (length word) refl, drop_at word rest (length word) refl, same_bytes word) refl

pub behind_found : (word text rest : List ℕ) → rest_after word text ≡ Some rest → text ≡ word ++ rest
behind_found word text rest h =
    let taken = cond_some (bytes_eq (take (length word) text) word) (drop (length word) text) rest h in
    let front : take (length word) text ≡ word = same_text _ _ (sym taken.0) in
    sym (take-append-drop (length word) text) ∙ ap (λ (w : List ℕ). w ++ drop (length word) text) front ∙ ap (λ (r : List ℕ). word ++ r) taken.1

-- ---- digits

pub digits_found : (n : ℕ) (text bytes : List ℕ) → lower_hex_bytes_of_length n text ≡ Some bytes
    → (text ≡ encode_lower bytes) × (length bytes ≡ n) × IsBytes bytes
digits_found n text bytes h =
    let taken = chose (list_all is_lower_hex_digit text) (hex_bytes_of_length n text) bytes h in
    let parts = spells text n bytes taken.1 in
    let ok = decode_of-ok text bytes parts.1 in
    let len : length bytes ≡ n = omega (arith, ok.2, parts.0) in
    let same : lower_hex_bytes_of_length (length bytes) text ≡ Some bytes = rw len h in
    (lower_written text bytes bytes true (Some bytes) same (refl, refl), len, ok.3)

pub digits_again : (n : ℕ) (bytes : List ℕ) → length bytes ≡ n → IsBytes bytes → lower_hex_bytes_of_length n (encode_lower bytes) ≡ Some bytes
digits_again n bytes len are = subst (λ (k : ℕ). lower_hex_bytes_of_length k (encode_lower bytes) ≡ Some bytes) len (of (lower_hex_bytes_of_length (length bytes) (encode_lower bytes)) refl)
  where
    of : (o : Option (List ℕ)) → lower_hex_bytes_of_length (length bytes) (encode_lower bytes) ≡ o → lower_hex_bytes_of_length (length bytes) (encode_lower bytes) ≡ Some bytes
    of None e = absurd (cc (lower_every (encode_lower bytes) bytes bytes false None e (refl, refl) bytes are refl refl))
    of (Some found) e =
        let taken = chose (list_all is_lower_hex_digit (encode_lower bytes)) (hex_bytes_of_length (length bytes) (encode_lower bytes)) found e in
        let parts = spells (encode_lower bytes) (length bytes) found taken.1 in
        cc (e, parts.1, decode_of-encode_lower bytes are)

-- digits that spell bytes are lower-case
pub digits_are_lower : (bytes : List ℕ) → IsBytes bytes → list_all is_lower_hex_digit (encode_lower bytes) ≡ true
digits_are_lower bytes are =
    (chose (list_all is_lower_hex_digit (encode_lower bytes)) (hex_bytes_of_length (length bytes) (encode_lower bytes)) bytes (digits_again (length bytes) bytes refl are)).0

-- ---- bytes that are neither digits nor in a number

pub implied : (p q : ℕ → Bool) → ((x : ℕ) → p x ≡ true → q x ≡ true) → (xs : List ℕ) → list_all p xs ≡ true → list_all q xs ≡ true
implied p q h [] all = refl
implied p q h (x ∷ xs) all =
    let parts = and_parts (p x) (list_all p xs) all in
    and_from (q x) (list_all q xs) (h x parts.0) (implied p q h xs parts.1)

pub lower_digits_are_free : (c : ℕ) (xs : List ℕ) → c < 45 → list_all is_lower_hex_digit xs ≡ true → is_free_of c xs ≡ true
lower_digits_are_free c xs low all = implied is_lower_hex_digit (λ b. not (b == c)) (λ x h. above x h) xs all
  where
    above : (x : ℕ) → is_lower_hex_digit x ≡ true → not (x == c) ≡ true
    above x h = grind (arith, nat_tests)

pub digits_are_free : (c : ℕ) (bytes : List ℕ) → c < 45 → IsBytes bytes → is_free_of c (encode_lower bytes) ≡ true
digits_are_free c bytes low are = lower_digits_are_free c (encode_lower bytes) low (digits_are_lower bytes are)

pub number_is_free : (c n : ℕ) → c < 45 → n < 2 ^ 64 → is_free_of c (decimal_of n) ≡ true
number_is_free c n low small =
    let test = test-from_IsDecimal (decimal_of n) n (IsDecimal-decimal_of n small) in
    let digits = and_parts (nat_lt 0 (length (decimal_of n))) (list_all is_ascii_digit (decimal_of n)) (and_parts (nat_lt 0 (length (decimal_of n)) && list_all is_ascii_digit (decimal_of n)) _ test).0 in
    implied is_ascii_digit (λ b. not (b == c)) (λ x h. above x h) (decimal_of n) digits.1
  where
    above : (x : ℕ) → is_ascii_digit x ≡ true → not (x == c) ≡ true
    above x h = grind (arith, nat_tests)
