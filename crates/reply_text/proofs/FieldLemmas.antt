-- The bytes of the fields of a line, the end of a field, and that a field determines its value.
use Rattle.std.proofs.Common.{◌≡◌, ◌≢◌, ℕ, ◌<◌, ◌≤◌, ◌^◌, ◌==◌, ◌&&◌, Bool, true, false, not, List, [], ◌∷◌, ◌++◌, length, codes, refl, ap, sym, subst, ◌∙◌, inl, inr, append_assoc, leb-true, arith}
use Rattle.std.specs.Prelude.{nat_le, ◌⊎◌}
use Rattle.std.specs.List.{All, AllPass, list_all, flat_map}
use Rattle.std.specs.Char.{is_ascii_digit}
use Rattle.std.proofs.lemmas.Bool.{and_parts}
use Rattle.std.proofs.lemmas.Bool.Decides.{nat_tests}
use Rattle.std.proofs.lemmas.Fmt.{decimal_injective}
use Rattle.std.proofs.lemmas.List.{append_cancel_left}
use Rattle.std.proofs.lemmas.List.Elements.{All-nil, All-cons, All-head, All-tail, All-append, All-from_get_or}
use Rattle.std.proofs.lemmas.List.Sums.{AllPass-from_list_all}
use Rattle.hex.specs.Hex.{IsBytes, encode_lower, is_hex_digit, lower_digits}
use Rattle.hex.proofs.HexLemmas.{decode_of-ok, decode_of-encode_lower, decode_of-same, length-encode_with}
use Rattle.percent_encoding.specs.Percent.{percent_decode}
use Rattle.percent_encoding.proofs.PercentLemmas.{IsByte, IsEscapeByte, All-percent_encode, round_trip}
use Rattle.script_words.specs.Word.{is_plain_character, word_text}
use Rattle.script_words.proofs.EscapeLemmas.{kept_is_plain}
use Rattle.text_words.specs.Numbers.{decimal_of}
use Rattle.text_words.proofs.NumberLemmas.{IsDecimal-decimal_of, test-from_IsDecimal}
use Rattle.reply_text.specs.Words.{bit, flag_text}
use Rattle.reply_text.specs.Names.{bytes_text, part_text, path_text, record_text, names_text}
use Rattle.reply_text.specs.declared.names.TheConstants.{ESCAPED_IN_WORDS, ESCAPED_IN_RECORDS}
use Rattle.reply_text.proofs.NameLemmas.{escaped_word, escaped_record, kept_in_record}

-- ---- the end of a field

-- a byte of a field: neither a space nor a line feed, nor `=`
abbrev pub IsFieldByte : ℕ → Type 0
IsFieldByte b = (33 ≤ b) × (b ≢ 61)

-- a byte of a call: a space is allowed too
abbrev pub IsCallByte : ℕ → Type 0
IsCallByte b = (32 ≤ b) × (b ≢ 61)

-- a byte of a line, before its line feed
abbrev pub IsLineByte : ℕ → Type 0
IsLineByte b = 32 ≤ b

-- nothing follows, or a byte that is not of the kind
abbrev pub EndsBy : (ℕ → Type 0) → List ℕ → Type 0
EndsBy P [] = Unit {0}
EndsBy P (b ∷ rest) = P b → ⊥

pub no_space : IsFieldByte 32 → ⊥
no_space h = let low : 33 ≤ 32 = h.0 in absurd (omega arith)

-- what begins with bytes of a kind, after which none follows, has these bytes and this rest
pub parted : (P : ℕ → Type 0) (a b x y : List ℕ) → All P a → All P b → EndsBy P x → EndsBy P y → a ++ x ≡ b ++ y
    → (a ≡ b) × (x ≡ y)
parted P [] [] x y ha hb ex ey e = (refl, e)
parted P [] (c ∷ b) [] y ha hb ex ey e = absurd (cc e)
parted P [] (c ∷ b) (d ∷ x) y ha hb ex ey e =
    let same : c ≡ d = cc in
    absurd (ex (subst P same (All-head P c b hb)))
parted P (c ∷ a) [] x [] ha hb ex ey e = absurd (cc e)
parted P (c ∷ a) [] x (d ∷ y) ha hb ex ey e =
    let same : c ≡ d = cc in
    absurd (ey (subst P same (All-head P c a ha)))
parted P (c ∷ a) (d ∷ b) x y ha hb ex ey e =
    let first : c ≡ d = cc in
    let rest : a ++ x ≡ b ++ y = cc in
    let parts = parted P a b x y (All-tail P c a ha) (All-tail P d b hb) ex ey rest in
    let more : a ≡ b = parts.0 in
    let whole : c ∷ a ≡ d ∷ b = cc in
    (whole, parts.1)

-- ---- of which bytes fields are

abbrev pub field_test : ℕ → Bool
field_test b = nat_le 33 b && not (b == 61)

pub field_byte : (b : ℕ) → field_test b ≡ true → IsFieldByte b
field_byte b h = let parts = and_parts (nat_le 33 b) (not (b == 61)) h in (leb-true 33 b parts.0, λ e. absurd (other b e parts.1))
  where
    other : (b : ℕ) → b ≡ 61 → not (b == 61) ≡ true → ⊥
    other b e h = absurd (cc (rw e at h))

pub field_literal : (word : List ℕ) → list_all field_test word ≡ true → All IsFieldByte word
field_literal word h k d within = field_byte _ (AllPass-from_list_all field_test word h k d within)

IsField-from_digits : (p : ℕ → Bool) → ((b : ℕ) → p b ≡ true → IsFieldByte b) → (xs : List ℕ) → AllPass p xs → All IsFieldByte xs
IsField-from_digits p is xs h k d within = is _ (h k d within)

pub IsField-decimal : (n : ℕ) → n < 2 ^ 64 → All IsFieldByte (decimal_of n)
IsField-decimal n small =
    let test = and_parts _ _ (and_parts _ _ (test-from_IsDecimal (decimal_of n) n (IsDecimal-decimal_of n small))).0 in
    IsField-from_digits is_ascii_digit high (decimal_of n) (AllPass-from_list_all is_ascii_digit (decimal_of n) test.1)
  where
    high : (b : ℕ) → is_ascii_digit b ≡ true → IsFieldByte b
    high b h = (grind (arith, nat_tests), λ e. absurd (cc (rw e at h)))

pub IsField-digits : (bytes : List ℕ) → IsBytes bytes → All IsFieldByte (encode_lower bytes)
IsField-digits bytes h =
    IsField-from_digits is_hex_digit high (encode_lower bytes) (decode_of-ok (encode_lower bytes) bytes (decode_of-encode_lower bytes h)).1
  where
    high : (b : ℕ) → is_hex_digit b ≡ true → IsFieldByte b
    high b h = (grind (arith, nat_tests), λ e. absurd (cc (rw e at h)))

escape_is_field : (b : ℕ) → IsEscapeByte b → IsFieldByte b
escape_is_field b (inl e) = (omega arith, λ other. absurd (omega arith))
escape_is_field b (inr (inl h)) = let low = h.0 in let high = h.1 in (omega arith, λ other. absurd (omega arith))
escape_is_field b (inr (inr h)) = let low = h.0 in let high = h.1 in (omega arith, λ other. absurd (omega arith))

plain_is_field : (b : ℕ) → is_plain_character b ≡ true → IsFieldByte b
plain_is_field b h = (grind (arith, nat_tests), λ e. absurd (cc (rw e at h)))

pub IsField-word : (bytes : List ℕ) → All IsFieldByte (word_text bytes)
IsField-word bytes =
    rw (← escaped_word bytes)
    (All-percent_encode IsFieldByte ESCAPED_IN_WORDS bytes (λ b kept. plain_is_field b (kept_is_plain b kept)) escape_is_field)

record_is_field : (b : ℕ) → (b ≡ 47) ⊎ (is_plain_character b ≡ true) → IsFieldByte b
record_is_field b (inl e) = (omega arith, λ other. absurd (omega arith))
record_is_field b (inr plain) = plain_is_field b plain

pub IsField-record : (name : List ℕ) → All IsFieldByte (record_text name)
IsField-record name =
    rw (← escaped_record name)
    (All-percent_encode IsFieldByte ESCAPED_IN_RECORDS name (λ b kept. record_is_field b (kept_in_record b kept)) escape_is_field)

IsField-dash : All IsFieldByte (codes "-")
IsField-dash = field_literal (codes "-") refl

pub IsField-bytes : (bytes : List ℕ) → IsBytes bytes → All IsFieldByte (bytes_text bytes)
IsField-bytes [] h = IsField-dash
IsField-bytes (b ∷ bytes) h = IsField-digits (b ∷ bytes) h

IsField-slash : IsFieldByte 47
IsField-slash = (omega arith, λ e. absurd (cc e))

IsField-root : All IsFieldByte (codes "/")
IsField-root = field_literal (codes "/") refl

IsField-parts : (path : List (List ℕ)) → All IsFieldByte (flat_map part_text path)
IsField-parts [] = All-nil IsFieldByte
IsField-parts (part ∷ more) =
    All-append IsFieldByte (part_text part) (flat_map part_text more) (All-cons IsFieldByte 47 (word_text part) IsField-slash (IsField-word part)) (IsField-parts more)

pub IsField-path : (path : List (List ℕ)) → All IsFieldByte (path_text path)
IsField-path [] = IsField-root
IsField-path (part ∷ more) = IsField-parts (part ∷ more)

-- ---- the values of fields

pub bit-small : (value : Bool) → bit value < 2 ^ 64
bit-small false = omega arith
bit-small true = omega arith

bit-injective : (v w : Bool) → bit v ≡ bit w → v ≡ w
bit-injective false false e = refl
bit-injective false true e = absurd (cc e)
bit-injective true false e = absurd (cc e)
bit-injective true true e = refl

pub number_field : (m n : ℕ) (x y : List ℕ) → m < 2 ^ 64 → n < 2 ^ 64 → EndsBy IsFieldByte x → EndsBy IsFieldByte y
    → decimal_of m ++ x ≡ decimal_of n ++ y → (m ≡ n) × (x ≡ y)
number_field m n x y hm hn ex ey e =
    let parts = parted IsFieldByte (decimal_of m) (decimal_of n) x y (IsField-decimal m hm) (IsField-decimal n hn) ex ey e in
    (decimal_injective m n hm hn parts.0, parts.1)

pub flag_field : (name : List ℕ) (v w : Bool) (x y : List ℕ) → EndsBy IsFieldByte x → EndsBy IsFieldByte y
    → flag_text name v ++ x ≡ flag_text name w ++ y → (v ≡ w) × (x ≡ y)
flag_field name v w x y ex ey e =
    let joined : name ++ (decimal_of (bit v) ++ x) ≡ name ++ (decimal_of (bit w) ++ y) =
    sym (append_assoc name (decimal_of (bit v)) x) ∙ e ∙ append_assoc name (decimal_of (bit w)) y in
    let parts = number_field (bit v) (bit w) x y (bit-small v) (bit-small w) ex ey (append_cancel_left name _ _ joined) in
    (bit-injective v w parts.0, parts.1)

pub last_flag : (name : List ℕ) (v w : Bool) → flag_text name v ≡ flag_text name w → v ≡ w
last_flag name v w e =
    bit-injective v w (decimal_injective (bit v) (bit w) (bit-small v) (bit-small w) (append_cancel_left name _ _ e))

pub digits-injective : (a b : List ℕ) → IsBytes a → IsBytes b → encode_lower a ≡ encode_lower b → a ≡ b
digits-injective a b ha hb e =
    decode_of-same (encode_lower a) a b (decode_of-encode_lower a ha) (rw e (decode_of-encode_lower b hb))

pub bytes_text-injective : (a b : List ℕ) → IsBytes a → IsBytes b → bytes_text a ≡ bytes_text b → a ≡ b
bytes_text-injective [] [] ha hb e = refl
bytes_text-injective [] (c ∷ b) ha hb e = absurd (omega (arith, length-encode_with lower_digits (c ∷ b), ap length e))
bytes_text-injective (c ∷ a) [] ha hb e = absurd (omega (arith, length-encode_with lower_digits (c ∷ a), ap length e))
bytes_text-injective (c ∷ a) (d ∷ b) ha hb e = digits-injective (c ∷ a) (d ∷ b) ha hb e

are_bytes : (bytes : List ℕ) → IsBytes bytes → All IsByte bytes
are_bytes bytes h = All-from_get_or IsByte bytes 0 (λ i within. h i)

pub word_text-injective : (a b : List ℕ) → IsBytes a → IsBytes b → word_text a ≡ word_text b → a ≡ b
word_text-injective a b ha hb e =
    sym (round_trip ESCAPED_IN_WORDS a refl (are_bytes a ha))
    ∙ ap percent_decode (escaped_word a ∙ e ∙ sym (escaped_word b))
    ∙ round_trip ESCAPED_IN_WORDS b refl (are_bytes b hb)

pub names_end : (names : List (List ℕ)) → EndsBy IsFieldByte (names_text names)
names_end [] = tt
names_end (name ∷ names) = no_space

pub names_text-injective : (a b : List (List ℕ)) → All IsBytes a → All IsBytes b → names_text a ≡ names_text b → a ≡ b
names_text-injective [] [] ha hb e = refl
names_text-injective [] (m ∷ b) ha hb e = absurd (cc e)
names_text-injective (n ∷ a) [] ha hb e = absurd (cc e)
names_text-injective (n ∷ a) (m ∷ b) ha hb e =
    let rest : word_text n ++ names_text a ≡ word_text m ++ names_text b = cc in
    let parts = parted IsFieldByte (word_text n) (word_text m) (names_text a) (names_text b) (IsField-word n) (IsField-word m) (names_end a) (names_end b) rest in
    let first : n ≡ m = word_text-injective n m (All-head IsBytes n a ha) (All-head IsBytes m b hb) parts.0 in
    let more : a ≡ b = names_text-injective a b (All-tail IsBytes n a ha) (All-tail IsBytes m b hb) parts.1 in
    cc
