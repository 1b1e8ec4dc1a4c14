-- What is written of a value reads back, word by word.
use Rattle.std.proofs.Common.{◌≡◌, ℕ, ◌+◌, ◌/◌, ◌<◌, ◌≤◌, ◌^◌, Bool, true, false, List, [], ◌∷◌, ◌++◌, length, map, replicate, codes, Option, refl, ap, sym, ◌∙◌, arith, le-leb}
use Rattle.std.specs.Prelude.{nat_le, unwrap_or, if◌then◌else◌}
use Rattle.std.specs.List.{All, flat_map, slice_split}
use Rattle.std.proofs.lemmas.Bool.{lt-leb}
use Rattle.std.proofs.lemmas.Bool.Decides.{nat_tests}
use Rattle.std.proofs.lemmas.List.{length-replicate}
use Rattle.std.proofs.lemmas.List.Elements.{All-head, All-tail, All-from_get_or}
use Rattle.std.proofs.lemmas.List.Splits.{slice_split_at, slice_split_none}
use Rattle.hex.specs.Hex.{IsBytes, encode_lower, lower_digits}
use Rattle.hex.proofs.HexLemmas.{length-encode_with}
use Rattle.percent_encoding.specs.Percent.{percent_decode}
use Rattle.percent_encoding.proofs.PercentLemmas.{IsByte, IsEscapeByte, All-percent_encode, round_trip}
use Rattle.text_words.specs.Numbers.{decimal_of}
use Rattle.text_words.proofs.NumberLemmas.{number_below-decimal_of}
use Rattle.policy_ctx.specs.declared.policy.KeyId.{KeyId}
use Rattle.mount_model.specs.Carried.{IsPart, IsPath}
use Rattle.script_words.specs.Keys.{hex_or_none, hex_or_none_text}
use Rattle.script_words.specs.Path.{is_slash}
use Rattle.script_words.specs.Word.{is_plain_character, word_text}
use Rattle.script_words.proofs.EscapeLemmas.{kept_is_plain}
use Rattle.script_words.proofs.WordReadings.{hex_bytes_of_length-encode_lower, hex_or_none-text}
use Rattle.reply_text.specs.Names.{bytes_text, part_text, path_text, record_text}
use Rattle.reply_text.proofs.NameLemmas.{escaped_word, escaped_record}
use Rattle.entry_reader.specs.Fields.{number_in, place_in, zeros_in, id_in, policy_in, bytes_in, path_in}

-- ---- numbers

pub number_back : (n : ℕ) → n < 2 ^ 32 → number_in (decimal_of n) ≡ n
number_back n small = ap (λ (o : Option ℕ). unwrap_or o 0) (number_below-decimal_of (2 ^ 32) n small (omega arith))

pub place_back : (n : ℕ) → n < 2 ^ 64 → place_in (decimal_of n) ≡ n
place_back n small = ap (λ (o : Option ℕ). unwrap_or o 0) (number_below-decimal_of (2 ^ 64) n small small)

pub zeros_back : (most n : ℕ) → n ≤ most → n < 2 ^ 32 → zeros_in most (decimal_of n) ≡ replicate {A = ℕ} n 0
zeros_back most n few small =
    ap (λ (m : ℕ). replicate {A = ℕ} (if nat_le m most then m else 0) 0) (number_back n small) ∙ counted (nat_le n most) (le-leb n most few)
  where
    counted : (b : Bool) → b ≡ true → (let m : ℕ = if b then n else 0 in replicate {A = ℕ} m 0 ≡ replicate {A = ℕ} n 0)
    counted b is = rw is refl

pub zeros_counted : (most n : ℕ) → n ≤ most → n < 2 ^ 32 → length (zeros_in most (decimal_of n)) ≡ n
zeros_counted most n few small = ap length (zeros_back most n few small) ∙ length-replicate {A = ℕ} n 0

-- ---- digits

pub id_back : (id : KeyId) → length id.0 ≡ 16 → IsBytes id.0 → id_in (encode_lower id.0) ≡ id
id_back id size bytes =
    ap (λ (o : Option (List ℕ)). let made : KeyId = record { 0 = unwrap_or o (replicate 16 0) } in made) (hex_bytes_of_length-encode_lower 16 id.0 size bytes)

pub policy_back : (policy : List ℕ) → length policy ≡ 24 → IsBytes policy → policy_in (encode_lower policy) ≡ policy
policy_back policy size bytes =
    ap (λ (o : Option (List ℕ)). unwrap_or o (replicate 24 0)) (hex_bytes_of_length-encode_lower 24 policy size bytes)

bytes_text-script : (bytes : List ℕ) → bytes_text bytes ≡ hex_or_none_text bytes
bytes_text-script [] = refl
bytes_text-script (b ∷ bytes) = sym (first_text (nat_le 1 (length (b ∷ bytes))) (encode_lower (b ∷ bytes)) (codes "-") (le-leb 1 (length (b ∷ bytes)) (omega arith)))
  where
    first_text : (some : Bool) (x y : List ℕ) → some ≡ true → (let t : List ℕ = if some then x else y in t ≡ x)
    first_text some x y h = rw h refl

long_enough : (bytes : List ℕ) → length bytes ≤ length (bytes_text bytes) / 2
long_enough [] = omega arith
long_enough (b ∷ bytes) = let long = length-encode_with lower_digits (b ∷ bytes) in omega (arith, long)

pub bytes_back : (bytes : List ℕ) → IsBytes bytes → bytes_in (bytes_text bytes) ≡ bytes
bytes_back bytes h =
    ap (λ (o : Option (List ℕ)). unwrap_or o [])
    (ap (hex_or_none (length (bytes_text bytes) / 2)) (bytes_text-script bytes)
    ∙ hex_or_none-text (length (bytes_text bytes) / 2) bytes (long_enough bytes) h)

-- ---- words

are_bytes : (bytes : List ℕ) → IsBytes bytes → All IsByte bytes
are_bytes bytes h = All-from_get_or IsByte bytes 0 (λ i within. h i)

pub word_back : (bytes : List ℕ) → IsBytes bytes → percent_decode (word_text bytes) ≡ bytes
word_back bytes h = ap percent_decode (sym (escaped_word bytes)) ∙ round_trip _ bytes refl (are_bytes bytes h)

pub record_back : (name : List ℕ) → IsBytes name → percent_decode (record_text name) ≡ name
record_back name h = ap percent_decode (sym (escaped_record name)) ∙ round_trip _ name refl (are_bytes name h)

pub words_back : (names : List (List ℕ)) → All IsBytes names → map percent_decode (map word_text names) ≡ names
words_back [] h = refl
words_back (name ∷ names) h =
    ap (λ (n : List ℕ). n ∷ map percent_decode (map word_text names)) (word_back name (All-head IsBytes name names h))
    ∙ ap (λ (l : List (List ℕ)). name ∷ l) (words_back names (All-tail IsBytes name names h))

-- ---- paths

plain_is_no_slash : (b : ℕ) → is_plain_character b ≡ true → is_slash b ≡ false
plain_is_no_slash b plain = grind (arith, nat_tests)

escape_is_no_slash : (b : ℕ) → IsEscapeByte b → is_slash b ≡ false
escape_is_no_slash b escape = grind (arith, nat_tests)

no_slash : (part : List ℕ) → All (λ b. is_slash b ≡ false) (word_text part)
no_slash part =
    rw (← escaped_word part)
    (All-percent_encode (λ b. is_slash b ≡ false) _ part (λ b kept. plain_is_no_slash b (kept_is_plain b kept)) escape_is_no_slash)

-- the words between the slashes
parts_split : (part : List ℕ) (more : List (List ℕ)) → slice_split is_slash (word_text part ++ flat_map part_text more) ≡ map word_text (part ∷ more)
parts_split part [] =
    ap (slice_split is_slash) (append_nothing (word_text part)) ∙ slice_split_none is_slash (word_text part) (no_slash part)
  where
    append_nothing : (text : List ℕ) → text ++ [] ≡ text
    append_nothing [] = refl
    append_nothing (b ∷ text) = ap (λ (l : List ℕ). b ∷ l) (append_nothing text)
parts_split part (next ∷ more) =
    slice_split_at is_slash (word_text part) 47 (word_text next ++ flat_map part_text more) (no_slash part) refl
    ∙ ap (λ (l : List (List ℕ)). word_text part ∷ l) (parts_split next more)

nothing : length (percent_decode []) ≡ 0
unfolding percent_decode
nothing = refl

-- a word of a byte or more has a character
some_text : (part : List ℕ) → IsBytes part → 1 ≤ length part → 1 ≤ length (word_text part)
some_text part bytes some = counted (word_text part) refl
  where
    counted : (text : List ℕ) → word_text part ≡ text → 1 ≤ length text
    counted (b ∷ text) is = omega arith
    counted [] is =
        let back = word_back part bytes in
        let none : percent_decode [] ≡ part = ap percent_decode (sym is) ∙ back in
        absurd (omega (arith, ap length none, some, nothing))

parts_are_bytes : (path : List (List ℕ)) → All IsPart path → All IsBytes path
parts_are_bytes path h k d within = (h k d within).bytes

pub path_back : (path : List (List ℕ)) → IsPath path → path_in (path_text path) ≡ path
path_back [] is = refl
path_back (part ∷ more) is =
    let first = All-head IsPart part more is.parts in
    let some = some_text part first.bytes first.size.0 in
    behind (nat_le (length (path_text (part ∷ more))) 1) (word_text part ++ flat_map part_text more) (far (word_text part) (flat_map part_text more) some)
    (ap (map percent_decode) (parts_split part more) ∙ words_back (part ∷ more) (parts_are_bytes (part ∷ more) is.parts))
  where
    far : (word rest : List ℕ) → 1 ≤ length word → nat_le (length (47 ∷ (word ++ rest))) 1 ≡ false
    far [] rest some = absurd (omega (arith, some))
    far (b ∷ word) rest some = lt-leb (length (47 ∷ ((b ∷ word) ++ rest))) 1 (omega arith)

    behind : (b : Bool) (text : List ℕ) → b ≡ false → map percent_decode (slice_split is_slash text) ≡ part ∷ more
        → (let p : List (List ℕ) = if b then [] else map percent_decode (slice_split is_slash text) in p ≡ part ∷ more)
    behind b text far_off is = rw far_off is
