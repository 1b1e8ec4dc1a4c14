-- When digits spell bytes, and which.
use Rattle.std.proofs.Common.{◌≡◌, ◌≢◌, ℕ, zero, suc, ◌<◌, ◌*◌, ◌/◌, ◌%◌, ◌+◌, ◌-◌, ◌==◌, Bool, true, false, ◌&&◌, ◌||◌, not, List, [], ◌∷◌, length, Option, Some, None, Result, Ok, Err, refl, sym, ap, ◌∙◌, arith, inl, inr}
use Rattle.std.specs.Prelude.{if◌then◌else◌, is_some, IsTrue, ◌↔◌, slice_index, nat_le}
use Rattle.std.specs.Bool.{OnTrue}
use Rattle.std.specs.List.{list_all, AllPass}
use Rattle.std.specs.Result.{result_ok}
use Rattle.std.proofs.lemmas.Bool.{and_parts, and_from, cases_eq, cases_lt, eqb-true}
use Rattle.std.proofs.lemmas.Bool.Decides.{nat_tests}
use Rattle.std.proofs.lemmas.List.Sums.{AllPass-from_list_all, list_all-from_AllPass}
use Rattle.hex.specs.Hex.{hex_digit_value, pair_value, decode_pairs, decode_of, decode_sized, is_hex_digit, encode_lower, encode_with, lower_digits, IsBytes}
use Rattle.hex.specs.declared.error.FromHexError.{FromHexError}
use Rattle.hex.proofs.HexLemmas.{decode_of-even, decode_of-digits, decode_of-ok, decode_sized-twice, decode_of-encode_lower, length-encode_with}
use Rattle.text_words.specs.Digits.{hex_bytes_of_length, lower_hex_bytes_of_length, is_lower_hex_digit, ReadsInto}

-- ---- either case

taken : (len want : ℕ) (r : Result (List ℕ) FromHexError) (bytes : List ℕ) → len ≡ want → r ≡ Ok bytes
    → (let o : Option (List ℕ) = if len == want then result_ok r else None in o ≡ Some bytes)
taken len want r bytes e h = grind arith

left_out : (len want : ℕ) (r : Result (List ℕ) FromHexError) → len ≢ want
    → (let o : Option (List ℕ) = if len == want then result_ok r else None in o ≡ None)
left_out len want r other = grind arith

kept : (len want : ℕ) (r : Result (List ℕ) FromHexError) → len ≡ want
    → (let o : Option (List ℕ) = if len == want then result_ok r else None in o ≡ result_ok r)
kept len want r e = grind arith

pub was_ok : (r : Result (List ℕ) FromHexError) (bytes : List ℕ) → result_ok r ≡ Some bytes → r ≡ Ok bytes
was_ok (Ok xs) bytes h = cc h
was_ok (Err e) bytes h = absurd (cc h)

took : (len want : ℕ) (r : Result (List ℕ) FromHexError) (bytes : List ℕ)
    → (let o : Option (List ℕ) = if len == want then result_ok r else None in o ≡ Some bytes) → (len ≡ want) × (r ≡ Ok bytes)
took len want r bytes h =
    elim (cases_eq len want) [
      | inl e ↦ (e, was_ok r bytes (sym (kept len want r e) ∙ h))
      | inr other ↦ absurd (cc (sym (left_out len want r other) ∙ h))
    ]

-- digits of the right number spell bytes
pub spelled : (text : List ℕ) (n : ℕ) → list_all is_hex_digit text ≡ true → length text ≡ 2 * n
    → (bytes : List ℕ) × (decode_sized text n ≡ Ok bytes) × (hex_bytes_of_length n text ≡ Some bytes)
spelled text n digits len =
    let bytes = decode_of-digits text (omega arith) (AllPass-from_list_all is_hex_digit text digits) in
    (bytes.0, decode_sized-twice text n len ∙ bytes.1, taken (length text) (2 * n) (decode_of text) bytes.0 len bytes.1)

-- what spells bytes is digits of the right number
pub spells : (text : List ℕ) (n : ℕ) (bytes : List ℕ) → hex_bytes_of_length n text ≡ Some bytes
    → (length text ≡ 2 * n) × (decode_of text ≡ Ok bytes) × AllPass is_hex_digit text
spells text n bytes h =
    let parts = took (length text) (2 * n) (decode_of text) bytes h in
    (parts.0, parts.1, (decode_of-ok text bytes parts.1).1)

not_spelled : (text : List ℕ) (n : ℕ) (o : Option (List ℕ)) → o ≡ hex_bytes_of_length n text → list_all is_hex_digit text ≡ false → o ≡ None
not_spelled text n None e digits = refl
not_spelled text n (Some bytes) e digits =
    absurd (cc (sym digits ∙ list_all-from_AllPass is_hex_digit text (spells text n bytes (sym e)).2))

-- what the reader returns if a byte is no digit
pub reads_no_digits : (text old : List ℕ) → list_all is_hex_digit text ≡ false
    → ReadsInto (hex_bytes_of_length (length old) text) old old false
reads_no_digits text old digits = rw (not_spelled text (length old) _ refl digits) (refl, refl)

pub digits_exactly : (text old new : List ℕ) (answer : Bool) (o : Option (List ℕ)) → hex_bytes_of_length (length old) text ≡ o
    → ReadsInto o old new answer → IsTrue answer ↔ ((length text ≡ 2 * length old) × AllPass is_hex_digit text)
digits_exactly text old new answer None e h = (
  λ yes. absurd (cc (sym h.0 ∙ yes)),
  λ shape. absurd (cc (sym (spelled text (length old) (list_all-from_AllPass is_hex_digit text shape.1) shape.0).2 ∙ e)),
)
digits_exactly text old new answer (Some bytes) e h =
    let parts = spells text (length old) bytes e in
    (λ _. (parts.0, parts.2), λ _. h.0)

-- ---- lower case alone

-- the value of a lower-case digit
abbrev lower_value : ℕ → ℕ
lower_value c = if nat_le c 57 then c - 48 else c - 87

-- the test of the bytes below n, which computes: a lower-case digit is the digit of its value
abbrev reads_back : ℕ → Bool
reads_back zero = true
reads_back (suc n) = (not (is_lower_hex_digit n) || slice_index lower_digits (lower_value n) == n) && reads_back n

reads_back-at : (n c : ℕ) → reads_back n ≡ true → c < n → is_lower_hex_digit c ≡ true → slice_index lower_digits (lower_value c) ≡ c
reads_back-at zero c h lt lower = absurd (omega arith)
reads_back-at (suc n) c h lt lower =
    let parts = and_parts (not (is_lower_hex_digit n) || slice_index lower_digits (lower_value n) == n) (reads_back n) h in
    elim (cases_lt c n) [
      | inl below ↦ reads_back-at n c parts.1 below lower
      | inr top ↦
          let e : c ≡ n = omega arith in
          here c lower (rw e parts.0)
    ]
  where
    here : (c : ℕ) → is_lower_hex_digit c ≡ true → (not (is_lower_hex_digit c) || slice_index lower_digits (lower_value c) == c) ≡ true
        → slice_index lower_digits (lower_value c) ≡ c
    here c lower h = eqb-true _ _ (after (is_lower_hex_digit c) _ lower h)
      where
        after : (a b : Bool) → a ≡ true → (not a || b) ≡ true → b ≡ true
        after a b e h = rw e at h

lower_digit : (c : ℕ) → is_lower_hex_digit c ≡ true → slice_index lower_digits (lower_value c) ≡ c
lower_digit c lower = reads_back-at 128 c refl (small c lower) lower
  where
    small : (c : ℕ) → is_lower_hex_digit c ≡ true → c < 128
    small c h = grind (arith, nat_tests)

lower_value-small : (c : ℕ) → is_lower_hex_digit c ≡ true → lower_value c < 16
lower_value-small c h = grind (arith, nat_tests)

-- a text of pairs of lower-case digits is the lower-case text of some bytes
lower_text : (text : List ℕ) → list_all is_lower_hex_digit text ≡ true → length text % 2 ≡ 0
    → (bytes : List ℕ) × IsBytes bytes × (text ≡ encode_lower bytes)
unfolding encode_with
lower_text [] lower even = ([], λ i. omega arith, refl)
lower_text (a ∷ []) lower even = absurd (omega arith)
lower_text (a ∷ b ∷ rest) lower even =
    let first = and_parts (is_lower_hex_digit a) (list_all is_lower_hex_digit (b ∷ rest)) lower in
    let second = and_parts (is_lower_hex_digit b) (list_all is_lower_hex_digit rest) first.1 in
    let more = lower_text rest second.1 (omega arith) in
    let va = lower_value-small a first.0 in
    let vb = lower_value-small b second.0 in
    let byte = lower_value a * 16 + lower_value b in
    let high : byte / 16 ≡ lower_value a = omega arith in
    let low : byte % 16 ≡ lower_value b = omega arith in (
      byte ∷ more.0,
      front byte more.0 (omega arith) more.1,
      ap (λ x. x ∷ b ∷ rest) (sym (ap (slice_index lower_digits) high ∙ lower_digit a first.0))
          ∙ ap (λ x. slice_index lower_digits (byte / 16) ∷ x ∷ rest) (sym (ap (slice_index lower_digits) low ∙ lower_digit b second.0))
          ∙ ap (λ xs. slice_index lower_digits (byte / 16) ∷ slice_index lower_digits (byte % 16) ∷ xs) more.2,
    )
  where
    front : (x : ℕ) (xs : List ℕ) → x < 256 → IsBytes xs → IsBytes (x ∷ xs)
    front x xs h hs zero = h
    front x xs h hs (suc i) = hs i

-- the digits of the lower-case text are lower-case
all_lower : ℕ → Bool
all_lower zero = true
all_lower (suc n) = is_lower_hex_digit (slice_index lower_digits n) && all_lower n

all_lower-at : (n d : ℕ) → all_lower n ≡ true → d < n → is_lower_hex_digit (slice_index lower_digits d) ≡ true
unfolding all_lower
all_lower-at zero d h lt = absurd (omega arith)
all_lower-at (suc n) d h lt =
    let parts = and_parts (is_lower_hex_digit (slice_index lower_digits n)) (all_lower n) h in
    elim (cases_lt d n) [
      | inl below ↦ all_lower-at n d parts.1 below
      | inr top ↦
          let e : d ≡ n = omega arith in
          rw e parts.0
    ]

lower_encoding : (bytes : List ℕ) → IsBytes bytes → list_all is_lower_hex_digit (encode_lower bytes) ≡ true
unfolding encode_with all_lower
lower_encoding [] h = refl
lower_encoding (b ∷ rest) h =
    let small : b < 256 = h 0 in
    let high : b / 16 < 16 = omega arith in
    let low : b % 16 < 16 = omega arith in
    and_from _ _ (all_lower-at 16 (b / 16) refl high) (and_from _ _ (all_lower-at 16 (b % 16) refl low) (lower_encoding rest (λ i. h (suc i))))

lower_took : (b : Bool) (o : Option (List ℕ)) (bytes : List ℕ) → (let p : Option (List ℕ) = if b then o else None in p ≡ Some bytes)
    → (b ≡ true) × (o ≡ Some bytes)
lower_took true o bytes h = (refl, h)
lower_took false o bytes h = absurd (cc h)

pub lower_written : (text old new : List ℕ) (answer : Bool) (o : Option (List ℕ)) → lower_hex_bytes_of_length (length old) text ≡ o
    → ReadsInto o old new answer → OnTrue answer (text ≡ encode_lower new)
lower_written text old new answer None e h = rw h.0 tt
lower_written text old new answer (Some bytes) e h =
    let taken = lower_took (list_all is_lower_hex_digit text) (hex_bytes_of_length (length old) text) bytes e in
    let parts = spells text (length old) bytes taken.1 in
    let own = lower_text text taken.0 (omega (arith, parts.0)) in
    let same : Ok own.0 ≡ Ok bytes = sym (decode_of-encode_lower own.0 own.1) ∙ ap decode_of (sym own.2) ∙ parts.1 in
    rw h.0 (own.2 ∙ ap encode_lower (cc (same, h.1)))

pub lower_every : (text old new : List ℕ) (answer : Bool) (o : Option (List ℕ)) → lower_hex_bytes_of_length (length old) text ≡ o
    → ReadsInto o old new answer → (bytes : List ℕ) → IsBytes bytes → length bytes ≡ length old → text ≡ encode_lower bytes → answer ≡ true
lower_every text old new answer (Some found) e h bytes are len is = h.0
lower_every text old new answer None e h bytes are len is =
    let size : length text ≡ 2 * length old = ap length is ∙ length-encode_with lower_digits bytes ∙ ap (λ n. 2 * n) len in
    let value = taken (length text) (2 * length old) (decode_of text) bytes size (ap decode_of is ∙ decode_of-encode_lower bytes are) in
    let lower : list_all is_lower_hex_digit text ≡ true = rw is (lower_encoding bytes are) in
    absurd (cc (sym (both (list_all is_lower_hex_digit text) (hex_bytes_of_length (length old) text) bytes lower value) ∙ e))
  where
    both : (b : Bool) (o : Option (List ℕ)) (bytes : List ℕ) → b ≡ true → o ≡ Some bytes → (let p : Option (List ℕ) = if b then o else None in p ≡ Some bytes)
    both b o bytes e h = rw e h

-- ---- the test of lower-case digits

pub is_tested : (text : List ℕ) (n : ℕ) (test : Bool) → length text ≡ 2 * n → test ≡ list_all is_lower_hex_digit text
    → test ≡ is_some (lower_hex_bytes_of_length n text)
is_tested text n true size e =
    let own = lower_text text (sym e) (omega (arith, size)) in
    let found : hex_bytes_of_length n text ≡ Some own.0 =
    taken (length text) (2 * n) (decode_of text) own.0 size (ap decode_of own.2 ∙ decode_of-encode_lower own.0 own.1) in
    rw (sym e, found) refl
is_tested text n false size e = rw (sym e) refl

-- ---- digit by digit

pub digit_at : (text : List ℕ) (i : ℕ) → i < length text → list_all is_hex_digit text ≡ true
    → is_hex_digit (slice_index text i) ≡ true
digit_at text i low digits = AllPass-from_list_all is_hex_digit text digits i 0 low

pub pair_decoded : (high low i u v : ℕ) → hex_digit_value high ≡ Some u → hex_digit_value low ≡ Some v
    → pair_value high low i ≡ Ok (16 * u + v)
pair_decoded high low i u v h l =
    let order : u * 16 + v ≡ 16 * u + v = omega arith in
    rw (h, l) (ap Ok order)

-- what the reader returns if the text is digits of the right number, and if their number is another
pub reads_spelled : (text old new : List ℕ) → length text ≡ 2 * length old → decode_pairs 0 text ≡ Ok new
    → ReadsInto (hex_bytes_of_length (length old) text) old new true
reads_spelled text old new len is =
    let even : length text % 2 ≡ 0 = omega arith in
    rw (taken (length text) (2 * length old) (decode_of text) new len (decode_of-even text even ∙ is)) (refl, refl)

pub reads_other : (text old : List ℕ) → length text ≢ 2 * length old
    → ReadsInto (hex_bytes_of_length (length old) text) old old false
reads_other text old other = rw (left_out (length text) (2 * length old) (decode_of text) other) (refl, refl)
