-- What is written of a word, and what reads it back.
use Rattle.std.proofs.Common.{◌≡◌, ℕ, ◌<◌, ◌≤◌, ◌==◌, ◌/◌, ◌%◌, Bool, true, false, ◌&&◌, not, cond, List, [], ◌∷◌, ◌++◌, length, Option, Some, None, refl, sym, ap, subst, ◌∙◌, inl, inr, arith}
use Rattle.std.specs.Prelude.{nat_le, if◌then◌else◌, IsTrue}
use Rattle.std.specs.List.{All, list_all}
use Rattle.std.specs.Char.{is_ascii_graphic, is_ascii_hexdigit}
use Rattle.std.specs.Fmt.{digit_glyph}
use Rattle.std.proofs.lemmas.Bool.{agree_below, agree_below_at, cases_lt, and_parts, and_from, lt-ltb, le-leb, leb-true}
use Rattle.std.proofs.lemmas.Bool.Decides.{nat_tests}
use Rattle.std.proofs.lemmas.List.Elements.{All-weaker}
use Rattle.std.proofs.lemmas.List.Sums.{AllPass-from_list_all, list_all-from_AllPass}
use Rattle.percent_encoding.specs.AsciiSet.{contains, should_percent_encode}
use Rattle.percent_encoding.specs.Percent.{percent_encode, percent_decode, percent_encode_byte, encode_byte}
use Rattle.percent_encoding.proofs.PercentLemmas.{IsByte, IsEscapeByte, All-percent_encode, All-percent_decode, round_trip}
use Rattle.script_words.specs.Word.{has_whole_escapes, is_word_text, sized_word, word_bytes, may_be_target, passing, target_bytes, is_plain_character, byte_text, word_text, IsWord}
use Rattle.script_words.specs.declared.limits.TheConstants.{MAX_WORD_BYTES}
use Rattle.script_words.specs.declared.word.TheConstants.{ESCAPED}

-- ---- what is written

plain_characters : agree_below (contains ESCAPED) (λ b. not (is_plain_character b)) 128 ≡ true
plain_characters = refl

beyond_ascii : (b : ℕ) → 128 ≤ b → is_plain_character b ≡ false
beyond_ascii b high = grind (arith, nat_tests)

-- exactly the bytes that aren't plain characters are escaped
should_percent_encode-ESCAPED : (b : ℕ) → should_percent_encode ESCAPED b ≡ not (is_plain_character b)
unfolding should_percent_encode
should_percent_encode-ESCAPED b =
    elim (cases_lt b 128) [
      | inl low ↦
          let inside = agree_below_at (contains ESCAPED) (λ b. not (is_plain_character b)) 128 b plain_characters low in
          rw (lt-ltb b 128 low) inside
      | inr high ↦ rw (beyond_ascii b high) (grind (arith, nat_tests))
    ]

turned : (plain : Bool) (a b : List ℕ) → cond (not plain) a b ≡ cond plain b a
turned true a b = refl
turned false a b = refl

pub percent_encode-ESCAPED : (bytes : List ℕ) → percent_encode ESCAPED bytes ≡ word_text bytes
unfolding percent_encode word_text
percent_encode-ESCAPED [] = refl
percent_encode-ESCAPED (b ∷ bytes) =
    let rest = percent_encode-ESCAPED bytes in
    let first : encode_byte ESCAPED b ≡ byte_text b =
    ap (λ x. cond x (percent_encode_byte b) (b ∷ [])) (should_percent_encode-ESCAPED b) ∙ turned (is_plain_character b) _ _ in
    cc

-- ---- its characters

plain_is_graphic : (b : ℕ) → is_plain_character b ≡ true → is_ascii_graphic b ≡ true
plain_is_graphic b plain = grind (arith, nat_tests)

escape_is_graphic : (b : ℕ) → IsEscapeByte b → is_ascii_graphic b ≡ true
escape_is_graphic b escape = grind (arith, nat_tests)

pub kept_is_plain : (b : ℕ) → should_percent_encode ESCAPED b ≡ false → is_plain_character b ≡ true
kept_is_plain b kept = turn (is_plain_character b) (sym (should_percent_encode-ESCAPED b) ∙ kept)
  where
    turn : (plain : Bool) → not plain ≡ false → plain ≡ true
    turn true h = refl
    turn false h = absurd (cc h)

pub graphic_text : (bytes : List ℕ) → list_all is_ascii_graphic (word_text bytes) ≡ true
graphic_text bytes =
    list_all-from_AllPass is_ascii_graphic (word_text bytes)
    (rw (← percent_encode-ESCAPED bytes) (All-percent_encode (λ b. is_ascii_graphic b ≡ true) ESCAPED bytes (λ b kept. plain_is_graphic b (kept_is_plain b kept)) escape_is_graphic))

glyphs_are_digits : agree_below (λ d. is_ascii_hexdigit (digit_glyph true d)) (λ _. true) 16 ≡ true
glyphs_are_digits = refl

glyphs_are_not_percent : agree_below (λ d. digit_glyph true d == 37) (λ _. false) 16 ≡ true
glyphs_are_not_percent = refl

plain_is_not_percent : (b : ℕ) → is_plain_character b ≡ true → (b == 37) ≡ false
plain_is_not_percent b plain = grind (arith, nat_tests)

whole_escape : (high low : ℕ) (rest : List ℕ) → high < 16 → low < 16 → has_whole_escapes rest ≡ true
    → has_whole_escapes (37 ∷ digit_glyph true high ∷ digit_glyph true low ∷ rest) ≡ true
whole_escape high low rest h l more =
    rw (
      agree_below_at (λ d. is_ascii_hexdigit (digit_glyph true d)) (λ _. true) 16 high glyphs_are_digits h,
      agree_below_at (λ d. is_ascii_hexdigit (digit_glyph true d)) (λ _. true) 16 low glyphs_are_digits l,
      agree_below_at (λ d. digit_glyph true d == 37) (λ _. false) 16 high glyphs_are_not_percent h,
      agree_below_at (λ d. digit_glyph true d == 37) (λ _. false) 16 low glyphs_are_not_percent l,
    )
    more

escaped_byte : (b : ℕ) (rest : List ℕ) → has_whole_escapes rest ≡ true → has_whole_escapes (percent_encode_byte b ++ rest) ≡ true
unfolding percent_encode_byte
escaped_byte b rest more = whole_escape (b / 16 % 16) (b % 16) rest (omega arith) (omega arith) more

one_byte : (plain : Bool) (b : ℕ) (rest : List ℕ) → is_plain_character b ≡ plain → has_whole_escapes rest ≡ true
    → has_whole_escapes (cond plain (b ∷ []) (percent_encode_byte b) ++ rest) ≡ true
one_byte true b rest is more = rw (plain_is_not_percent b is) more
one_byte false b rest is more = escaped_byte b rest more

whole_text : (bytes : List ℕ) → has_whole_escapes (word_text bytes) ≡ true
unfolding word_text
whole_text [] = refl
whole_text (b ∷ bytes) = one_byte (is_plain_character b) b (word_text bytes) refl (whole_text bytes)

-- ---- what is written reads back

percent_decode-word_text : (bytes : List ℕ) → All IsByte bytes → percent_decode (word_text bytes) ≡ bytes
percent_decode-word_text bytes ranged = rw (← percent_encode-ESCAPED bytes) (round_trip ESCAPED bytes refl ranged)

pub word_bytes-word_text : (bytes : List ℕ) → IsWord bytes → word_bytes (word_text bytes) ≡ Some bytes
unfolding word_bytes
word_bytes-word_text bytes word =
    taken (is_word_text (word_text bytes)) _ bytes (and_from _ _ (graphic_text bytes) (whole_text bytes)) (percent_decode-word_text bytes word.ranged) word
  where
    taken : (is : Bool) (decoded bytes : List ℕ) → is ≡ true → decoded ≡ bytes → IsWord bytes
        → (let o : Option (List ℕ) = if is then sized_word decoded else None in o ≡ Some bytes)
    taken is decoded bytes h e word =
        rw (h, e, le-leb 1 (length bytes) word.nonempty, le-leb (length bytes) MAX_WORD_BYTES word.bounded) refl

pub target_bytes-word_text : (bytes : List ℕ) → IsWord bytes → IsTrue (may_be_target bytes) → target_bytes (word_text bytes) ≡ Some bytes
unfolding target_bytes
target_bytes-word_text bytes word target = rw (word_bytes-word_text bytes word, target) refl

-- ---- what a text spells

graphic_is_byte : (b : ℕ) → is_ascii_graphic b ≡ true → b < 256
graphic_is_byte b graphic = grind (arith, nat_tests)

pub IsWord-word_bytes : (text bytes : List ℕ) → word_bytes text ≡ Some bytes → IsWord bytes
unfolding word_bytes
IsWord-word_bytes text bytes spelled =
    let parts = taken (is_word_text text) (percent_decode text) bytes spelled in
    let graphic = and_parts (list_all is_ascii_graphic text) (has_whole_escapes text) parts.0 in
    let ranged = All-percent_decode text (All-weaker (λ b. is_ascii_graphic b ≡ true) IsByte graphic_is_byte text (AllPass-from_list_all is_ascii_graphic text graphic.0)) in
    record { nonempty = parts.2; bounded = parts.3; ranged = rw (← parts.1) ranged }
  where
    sized : (bytes found : List ℕ) (fits : Bool) → (nat_le 1 (length bytes) && nat_le (length bytes) MAX_WORD_BYTES) ≡ fits
        → (let o : Option (List ℕ) = if fits then Some bytes else None in o ≡ Some found)
        → (bytes ≡ found) × (1 ≤ length found) × (length found ≤ MAX_WORD_BYTES)
    sized bytes found true h e =
        let same : bytes ≡ found = cc in
        let both = and_parts _ _ h in
        (same, rw (← same) (leb-true 1 (length bytes) both.0), rw (← same) (leb-true (length bytes) MAX_WORD_BYTES both.1))
    sized bytes found false h e = absurd (cc e)

    taken : (is : Bool) (decoded bytes : List ℕ) → (let o : Option (List ℕ) = if is then sized_word decoded else None in o ≡ Some bytes)
        → (is ≡ true) × (decoded ≡ bytes) × (1 ≤ length bytes) × (length bytes ≤ MAX_WORD_BYTES)
    taken true decoded bytes e =
        let parts = sized decoded bytes _ refl e in
        (refl, parts.0, parts.1, parts.2)
    taken false decoded bytes e = absurd (cc e)

pub IsWord-target_bytes : (text bytes : List ℕ) → target_bytes text ≡ Some bytes → IsWord bytes × IsTrue (may_be_target bytes)
unfolding target_bytes
IsWord-target_bytes text bytes spelled = by_word (word_bytes text) (IsWord-word_bytes text) spelled
  where
    by_test : (word found : List ℕ) (may : Bool) → may_be_target word ≡ may → IsWord word
        → (let o : Option (List ℕ) = if may then Some word else None in o ≡ Some found) → IsWord found × IsTrue (may_be_target found)
    by_test word found true may is e =
        let same : word ≡ found = cc in
        let P : List ℕ → Type 0 = λ xs. IsWord xs × IsTrue (may_be_target xs) in
        subst P same (is, may)
    by_test word found false may is e = absurd (cc e)

    by_word : (word : Option (List ℕ)) → ((found : List ℕ) → word ≡ Some found → IsWord found) → passing may_be_target word ≡ Some bytes
        → IsWord bytes × IsTrue (may_be_target bytes)
    by_word None is e = absurd (cc e)
    by_word (Some word) is e = by_test word bytes (may_be_target word) refl (is word refl) e

-- words that are written alike are the same
pub word_text-injective : (a b : List ℕ) → IsWord a → IsWord b → word_text a ≡ word_text b → a ≡ b
word_text-injective a b wa wb same =
    let e : Some a ≡ Some b = sym (word_bytes-word_text a wa) ∙ ap word_bytes same ∙ word_bytes-word_text b wb in
    cc
