-- The text of names, one after the other, and the bytes that are escaped in them.
use Rattle.std.proofs.Common.{◌≡◌, ℕ, ◌+◌, ◌<◌, ◌≤◌, ◌==◌, ◌&&◌, Bool, true, false, not, cond, List, [], ◌∷◌, ◌++◌, length, take, get_or, Some, None, refl, ap, sym, ◌∙◌, inl, inr, append-nil, append_assoc, take_all, arith}
use Rattle.std.specs.Prelude.{slice_get, ◌⊎◌}
use Rattle.std.specs.List.{flat_map}
use Rattle.std.proofs.lemmas.Bool.{agree_below, agree_below_at, cases_lt, lt-ltb, eqb-true}
use Rattle.std.proofs.lemmas.Bool.Decides.{nat_tests}
use Rattle.std.proofs.lemmas.Grind.{flat_map-append}
use Rattle.std.proofs.lemmas.List.{take_more}
use Rattle.std.proofs.lemmas.Option.{slice_get_within, get_or_from_slice_get, slice_get-get_or}
use Rattle.percent_encoding.specs.AsciiSet.{contains, should_percent_encode}
use Rattle.percent_encoding.specs.Percent.{percent_encode, percent_encode_byte, encode_byte}
use Rattle.script_words.specs.Word.{is_plain_character, word_text}
use Rattle.script_words.proofs.EscapeLemmas.{percent_encode-ESCAPED}
use Rattle.reply_text.specs.Names.{part_text, path_text, record_byte_text, record_text}
use Rattle.reply_text.specs.declared.names.TheConstants.{ESCAPED_IN_WORDS, ESCAPED_IN_RECORDS}

-- ---- one after the other

-- the text of one item more
pub told-more : {X : Type 0} (f : X → List ℕ) (xs : List X) (i : ℕ) (x : X) → i < length xs → x ≡ get_or xs i x
    → flat_map f (take (i + 1) xs) ≡ flat_map f (take i xs) ++ f x
told-more f xs i x below here =
    ap (flat_map f) (take_more xs i x below ∙ ap (λ y. take i xs ++ y ∷ []) (sym here))
    ∙ flat_map-append f (take i xs) (x ∷ [])
    ∙ ap (λ text. flat_map f (take i xs) ++ text) (append-nil (f x))

-- the text of a path with one part more
pub parts-more : (path : List (List ℕ)) (i : ℕ) (part : List ℕ) (before words now : List ℕ)
    → slice_get path i ≡ Some part → now ≡ before ++ (words ++ flat_map part_text (take i path))
    → now ++ part_text part ≡ before ++ (words ++ flat_map part_text (take (i + 1) path))
parts-more path i part before words now here written =
    let below = slice_get_within path i part here in
    let more = told-more part_text path i part below (sym (get_or_from_slice_get path i part part here)) in
    rw (more, ← append_assoc words (flat_map part_text (take i path)) (part_text part), ← append_assoc before (words ++ flat_map part_text (take i path)) (part_text part), written) refl

-- a path that has parts is the text of each
pub path_text-parts : (path : List (List ℕ)) (i : ℕ) → (length path ≡ 0 → ⊥) → slice_get path i ≡ None
    → flat_map part_text (take i path) ≡ path_text path
path_text-parts [] i some past = absurd (some refl)
path_text-parts (part ∷ more) i some past = ap (flat_map part_text) (take_all i (part ∷ more) (past_end (part ∷ more) i past))
  where
    past_end : (xs : List (List ℕ)) (i : ℕ) → slice_get xs i ≡ None → length xs ≤ i
    past_end xs i past =
        elim (cases_lt i (length xs)) [
          | inl below ↦ absurd (cc (past, slice_get-get_or xs i [] below))
          | inr high ↦ high
        ]

-- ---- what is escaped

pub escaped_word : (bytes : List ℕ) → percent_encode ESCAPED_IN_WORDS bytes ≡ word_text bytes
escaped_word bytes = percent_encode-ESCAPED bytes

abbrev escaped_in_record : ℕ → Bool
escaped_in_record b = not (b == 47) && not (is_plain_character b)

record_characters : agree_below (contains ESCAPED_IN_RECORDS) escaped_in_record 128 ≡ true
record_characters = refl

beyond_ascii : (b : ℕ) → 128 ≤ b → escaped_in_record b ≡ true
beyond_ascii b high = grind (arith, nat_tests)

should_percent_encode-record : (b : ℕ) → should_percent_encode ESCAPED_IN_RECORDS b ≡ escaped_in_record b
unfolding should_percent_encode
should_percent_encode-record b =
    elim (cases_lt b 128) [
      | inl low ↦
          let inside = agree_below_at (contains ESCAPED_IN_RECORDS) escaped_in_record 128 b record_characters low in
          rw (lt-ltb b 128 low) inside
      | inr high ↦ rw (beyond_ascii b high) (grind (arith, nat_tests))
    ]

turned : (slash plain : Bool) (a b : List ℕ) → cond (not slash && not plain) a b ≡ cond slash b (cond plain b a)
turned true plain a b = refl
turned false true a b = refl
turned false false a b = refl

pub escaped_record : (bytes : List ℕ) → percent_encode ESCAPED_IN_RECORDS bytes ≡ record_text bytes
unfolding percent_encode record_text
escaped_record [] = refl
escaped_record (b ∷ bytes) =
    let rest = escaped_record bytes in
    let first : encode_byte ESCAPED_IN_RECORDS b ≡ record_byte_text b =
    ap (λ x. cond x (percent_encode_byte b) (b ∷ [])) (should_percent_encode-record b) ∙ turned (b == 47) (is_plain_character b) _ _ in
    cc

-- what is not escaped in a record's name
pub kept_in_record : (b : ℕ) → should_percent_encode ESCAPED_IN_RECORDS b ≡ false → (b ≡ 47) ⊎ (is_plain_character b ≡ true)
kept_in_record b kept = turn (b == 47) (is_plain_character b) refl refl (sym (should_percent_encode-record b) ∙ kept)
  where
    turn : (slash plain : Bool) → (b == 47) ≡ slash → is_plain_character b ≡ plain → (not slash && not plain) ≡ false
        → (b ≡ 47) ⊎ (is_plain_character b ≡ true)
    turn true plain is p h = inl (eqb-true b 47 is)
    turn false true is p h = inr p
    turn false false is p h = absurd (cc h)
