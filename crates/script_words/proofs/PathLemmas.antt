-- A path reads back from its text, and what a text spells is a path.
use Rattle.std.proofs.Common.{◌≡◌, ℕ, suc, cond, length-append, ◌^◌, ◌<◌, ◌≤◌, ◌+◌, ◌==◌, Bool, true, false, ◌&&◌, not, List, [], ◌∷◌, ◌++◌, length, map, Option, Some, None, refl, sym, ap, ◌∙◌, subst, arith, append-nil}
use Rattle.std.specs.Prelude.{nat_le, nat_lt, if◌then◌else◌}
use Rattle.std.specs.List.{All, list_all, slice_split}
use Rattle.std.specs.Option.{option_map, option_or}
use Rattle.std.specs.Char.{is_ascii_digit}
use Rattle.std.specs.Str.Parse.{digits_value}
use Rattle.std.proofs.lemmas.Bool.{and_parts, le-leb, leb-true, ltb-true}
use Rattle.std.proofs.lemmas.Bool.Decides.{nat_tests}
use Rattle.std.proofs.lemmas.List.{length-map}
use Rattle.std.proofs.lemmas.List.Elements.{All-nil, All-cons, All-head, All-tail, All-weaker}
use Rattle.std.proofs.lemmas.List.Sums.{AllPass-from_list_all}
use Rattle.std.proofs.lemmas.List.Splits.{slice_split_none, slice_split_at}
use Rattle.percent_encoding.specs.Percent.{percent_encode_byte}
use Rattle.percent_encoding.proofs.PercentLemmas.{IsEscapeByte, All-percent_encode, percent_encode_nonempty}
use Rattle.text_words.specs.Numbers.{number_below, decimal_of, is_decimal}
use Rattle.text_words.proofs.NumberLemmas.{number_below-decimal_of, IsDecimal-decimal_of, test-from_IsDecimal}
use Rattle.script_words.specs.Word.{IsWord, word_bytes, word_text, passing, is_plain_character}
use Rattle.script_words.specs.Path.{is_slash, may_be_part, star_number, part_of, before_parts, parts_of, few_parts, path_of, IsPart, IsPath}
use Rattle.script_words.specs.PathText.{part_text, parts_text, path_text}
use Rattle.script_words.specs.declared.limits.TheConstants.{MAX_PARTS}
use Rattle.script_words.specs.declared.path.ScriptPart.{ScriptPart}
use Rattle.script_words.specs.declared.path.ScriptPart.TheVariants.{Given, Star}
use Rattle.script_words.specs.declared.word.TheConstants.{ESCAPED}
use Rattle.script_words.proofs.EscapeLemmas.{percent_encode-ESCAPED, kept_is_plain, word_bytes-word_text, IsWord-word_bytes}

-- ---- what is written of a part

plain_is_no_slash : (b : ℕ) → is_plain_character b ≡ true → is_slash b ≡ false
plain_is_no_slash b plain = grind (arith, nat_tests)

escape_is_no_slash : (b : ℕ) → IsEscapeByte b → is_slash b ≡ false
escape_is_no_slash b escape = grind (arith, nat_tests)

digit_is_no_slash : (b : ℕ) → is_ascii_digit b ≡ true → is_slash b ≡ false
digit_is_no_slash b digit = grind (arith, nat_tests)

digits_of : (n : ℕ) → n < 2 ^ 32 → list_all is_ascii_digit (decimal_of n) ≡ true
digits_of n small =
    let test = test-from_IsDecimal (decimal_of n) n (IsDecimal-decimal_of n (omega arith)) in
    let front = and_parts (nat_lt 0 (length (decimal_of n)) && list_all is_ascii_digit (decimal_of n)) _ test in
    (and_parts (nat_lt 0 (length (decimal_of n))) (list_all is_ascii_digit (decimal_of n)) front.0).1

part_text-no_slash : (part : ScriptPart) → IsPart part → All (λ b. is_slash b ≡ false) (part_text part)
part_text-no_slash (Given bytes) is =
    rw (← percent_encode-ESCAPED bytes) (All-percent_encode (λ b. is_slash b ≡ false) ESCAPED bytes (λ b kept. plain_is_no_slash b (kept_is_plain b kept)) escape_is_no_slash)
part_text-no_slash (Star number) is =
    All-cons (λ b. is_slash b ≡ false) 42 (decimal_of number) refl
    (All-weaker (λ b. is_ascii_digit b ≡ true) (λ b. is_slash b ≡ false) digit_is_no_slash (decimal_of number) (AllPass-from_list_all is_ascii_digit (decimal_of number) (digits_of number is)))

plain_is_not_star : (b : ℕ) → is_plain_character b ≡ true → (b == 42) ≡ false
plain_is_not_star b plain = grind (arith, nat_tests)

-- a written byte begins no star
no_star : (plain : Bool) (b : ℕ) (rest : List ℕ) → is_plain_character b ≡ plain
    → star_number (cond plain (b ∷ []) (percent_encode_byte b) ++ rest) ≡ None
unfolding percent_encode_byte
no_star true b rest is = rw (plain_is_not_star b is) refl
no_star false b rest is = refl

star_number-word_text : (bytes : List ℕ) → 1 ≤ length bytes → star_number (word_text bytes) ≡ None
unfolding word_text
star_number-word_text [] some = absurd (omega arith)
star_number-word_text (b ∷ bytes) some = no_star _ b (word_text bytes) refl

pub part_of-part_text : (part : ScriptPart) → IsPart part → part_of (part_text part) ≡ Some part
unfolding part_of
part_of-part_text (Given bytes) is =
    rw (star_number-word_text bytes (is.0).nonempty, word_bytes-word_text bytes is.0, is.1) refl
part_of-part_text (Star number) is = rw (number_below-decimal_of (2 ^ 32) number is (omega arith)) refl

-- ---- a path reads back

pieces_of_parts : (part : ScriptPart) (parts : List ScriptPart) → IsPart part → All IsPart parts
    → slice_split is_slash (part_text part ++ parts_text parts) ≡ part_text part ∷ map part_text parts
pieces_of_parts part [] is each = rw append-nil (slice_split_none is_slash (part_text part) (part_text-no_slash part is))
pieces_of_parts part (next ∷ parts) is each =
    slice_split_at is_slash (part_text part) 47 (part_text next ++ parts_text parts) (part_text-no_slash part is) refl
    ∙ ap (λ pieces. part_text part ∷ pieces) (pieces_of_parts next parts (All-head IsPart next parts each) (All-tail IsPart next parts each))

parts_of-texts : (parts : List ScriptPart) → All IsPart parts → parts_of (map part_text parts) ≡ Some parts
parts_of-texts [] each = refl
parts_of-texts (part ∷ parts) each =
    rw (part_of-part_text part (All-head IsPart part parts each), parts_of-texts parts (All-tail IsPart part parts each)) refl

few_parts-texts : (path : List ScriptPart) → IsPath path → few_parts (map part_text path) ≡ Some path
few_parts-texts path is = rw (length-map path part_text, le-leb (length path) MAX_PARTS is.bounded) (parts_of-texts path is.each)

part_text-nonempty : (part : ScriptPart) → IsPart part → 0 < length (part_text part)
part_text-nonempty (Given bytes) is = rw (← percent_encode-ESCAPED bytes) (percent_encode_nonempty ESCAPED bytes (omega (arith, (is.0).nonempty)))
part_text-nonempty (Star number) is = omega arith

not_empty : (n m : ℕ) → 0 < n → (n + m == 0) ≡ false
not_empty n m some = grind (arith, nat_tests)

pub path_of-path_text : (path : List ScriptPart) → IsPath path → path_of (path_text path) ≡ Some path
unfolding path_of path_text
path_of-path_text [] is = refl
path_of-path_text (part ∷ parts) is =
    let first = All-head IsPart part parts is.each in
    let rest = All-tail IsPart part parts is.each in
    rw (
      length-append (part_text part) (parts_text parts),
      not_empty (length (part_text part)) (length (parts_text parts)) (part_text-nonempty part first),
      pieces_of_parts part parts first rest,
    )
    (few_parts-texts (part ∷ parts) is)

-- ---- what a text spells is a path

chosen : (b : Bool) (x n : ℕ) → (let o : Option ℕ = if b then Some x else None in o ≡ Some n) → (b ≡ true) × (x ≡ n)
chosen true x n h = (refl, cc)
chosen false x n h = absurd (cc h)

number_below-small : (limit : ℕ) (text : List ℕ) (n : ℕ) → number_below limit text ≡ Some n → n < limit
number_below-small limit text n h =
    let value = digits_value 10 text in
    let taken = chosen (is_decimal text && nat_lt value limit) value n h in
    let parts = and_parts (is_decimal text) (nat_lt value limit) taken.0 in
    omega (arith, taken.1, ltb-true value limit parts.1)

star_number-small : (text : List ℕ) (n : ℕ) → star_number text ≡ Some n → n < 2 ^ 32
star_number-small [] n h = absurd (cc h)
star_number-small (c ∷ number) n h = by_star (c == 42) h
  where
    by_star : (star : Bool) → (let o : Option ℕ = if star then number_below (2 ^ 32) number else None in o ≡ Some n) → n < 2 ^ 32
    by_star true h = number_below-small (2 ^ 32) number n h
    by_star false h = absurd (cc h)

IsPart_of_word : (fits : Bool) (bytes : List ℕ) (part : ScriptPart) → may_be_part bytes ≡ fits → IsWord bytes
    → (let o : Option (List ℕ) = if fits then Some bytes else None in option_map Given o ≡ Some part) → IsPart part
IsPart_of_word true bytes part fits word h =
    let same : Given bytes ≡ part = cc in
    subst IsPart same (word, fits)
IsPart_of_word false bytes part fits word h = absurd (cc h)

IsPart_of_either : (star : Option ℕ) (word : Option (List ℕ)) (part : ScriptPart)
    → ((n : ℕ) → star ≡ Some n → n < 2 ^ 32) → ((bytes : List ℕ) → word ≡ Some bytes → IsWord bytes)
    → option_or (option_map Star star) (option_map Given (passing may_be_part word)) ≡ Some part → IsPart part
IsPart_of_either (Some n) word part small is h =
    let same : Star n ≡ part = cc in
    subst IsPart same (small n refl)
IsPart_of_either None None part small is h = absurd (cc h)
IsPart_of_either None (Some bytes) part small is h = IsPart_of_word (may_be_part bytes) bytes part refl (is bytes refl) h

pub IsPart-part_of : (text : List ℕ) (part : ScriptPart) → part_of text ≡ Some part → IsPart part
unfolding part_of
IsPart-part_of text part h = IsPart_of_either (star_number text) (word_bytes text) part (star_number-small text) (IsWord-word_bytes text) h

-- the first part and the others
first_and_rest : (first : Option ScriptPart) (rest : Option (List ScriptPart)) (path : List ScriptPart) → before_parts first rest ≡ Some path
    → (part : ScriptPart) × ((parts : List ScriptPart) × ((first ≡ Some part) × (rest ≡ Some parts) × (path ≡ part ∷ parts)))
first_and_rest None rest path h = absurd (cc h)
first_and_rest (Some part) None path h = absurd (cc h)
first_and_rest (Some part) (Some parts) path h = (part, (parts, (refl, refl, cc)))

each_is_part : (texts : List (List ℕ)) (path : List ScriptPart) → parts_of texts ≡ Some path → (length path ≡ length texts) × All IsPart path
each_is_part [] path h =
    let same : [] ≡ path = cc in
    subst (λ (xs : List ScriptPart). (length xs ≡ 0) × All IsPart xs) same (refl, All-nil IsPart)
each_is_part (text ∷ texts) path h =
    let found = first_and_rest (part_of text) (parts_of texts) path h in
    let part = found.0 in
    let parts = found.1.0 in
    let facts = found.1.1 in
    let more = each_is_part texts parts facts.1 in
    let all : (length (part ∷ parts) ≡ suc (length texts)) × All IsPart (part ∷ parts) =
    (ap (λ n. suc n) more.0, All-cons IsPart part parts (IsPart-part_of text part facts.0) more.1) in
    subst (λ (xs : List ScriptPart). (length xs ≡ suc (length texts)) × All IsPart xs) (sym facts.2) all

pub IsPath-few_parts : (texts : List (List ℕ)) (path : List ScriptPart) → few_parts texts ≡ Some path → IsPath path
IsPath-few_parts texts path h = by_count (nat_le (length texts) MAX_PARTS) refl h
  where
    by_count : (few : Bool) → nat_le (length texts) MAX_PARTS ≡ few
        → (let o : Option (List ScriptPart) = if few then parts_of texts else None in o ≡ Some path) → IsPath path
    by_count true few h =
        let each = each_is_part texts path h in
        record { bounded = omega (arith, each.0, leb-true (length texts) MAX_PARTS few); each = each.1 }
    by_count false few h = absurd (cc h)

pub IsPath-nil : IsPath []
IsPath-nil = record { bounded = omega arith; each = All-nil IsPart }

pub IsPath-path_of : (text : List ℕ) (path : List ScriptPart) → path_of text ≡ Some path → IsPath path
unfolding path_of
IsPath-path_of [] path h = absurd (cc h)
IsPath-path_of (first ∷ rest) path h = by_tests (is_slash first) (length rest == 0) h
  where
    by_tests : (slash empty : Bool)
        → (let parts : Option (List ScriptPart) = few_parts (slice_split is_slash rest) in
        let o : Option (List ScriptPart) = if not slash then None else if empty then Some [] else parts in o ≡ Some path)
        → IsPath path
    by_tests false empty h = absurd (cc h)
    by_tests true true h =
        let same : [] ≡ path = cc in
        subst IsPath same IsPath-nil
    by_tests true false h = IsPath-few_parts (slice_split is_slash rest) path h

-- paths that are written alike are the same
pub path_text-injective : (a b : List ScriptPart) → IsPath a → IsPath b → path_text a ≡ path_text b → a ≡ b
path_text-injective a b pa pb same =
    let e : Some a ≡ Some b = sym (path_of-path_text a pa) ∙ ap path_of same ∙ path_of-path_text b pb in
    cc
