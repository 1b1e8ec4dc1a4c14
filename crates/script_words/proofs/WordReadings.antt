-- What is written of words reads back.
use Rattle.std.proofs.Common.{◌≡◌, ℕ, suc, ◌<◌, ◌≤◌, ◌^◌, ◌*◌, ◌+◌, ◌==◌, ◌&&◌, Bool, true, false, List, [], ◌∷◌, ◌++◌, length, take, drop, codes, Option, Some, None, Ok, refl, ap, ◌∙◌, arith, eq-eqb, append_assoc, length-append}
use Rattle.std.specs.Prelude.{nat_le, nat_lt, is_ok, if◌then◌else◌}
use Rattle.std.specs.List.{position_or_len, before_first, after_first}
use Rattle.std.specs.Char.{is_ascii_digit}
use Rattle.std.specs.Option.{option_map, option_and_then}
use Rattle.std.specs.Result.{result_ok}
use Rattle.std.specs.Str.{bytes_eq}
use Rattle.std.proofs.lemmas.Bool.{and_from, le-leb, lt-ltb}
use Rattle.std.proofs.lemmas.Bool.Decides.{nat_tests}
use Rattle.std.proofs.lemmas.List.{get_or_append_left}
use Rattle.std.proofs.Math.Seq.{get_or-append_seam}
use Rattle.std.proofs.lemmas.List.Sums.{position_or_len_is}
use Rattle.hex.specs.Hex.{IsBytes, encode_lower, lower_digits}
use Rattle.hex.proofs.HexLemmas.{decode_of-encode_lower, length-encode_with}
use Rattle.text_words.specs.Digits.{hex_bytes, hex_bytes_of_length}
use Rattle.text_words.specs.Numbers.{decimal_of}
use Rattle.text_words.proofs.NumberLemmas.{number_below-decimal_of}
use Rattle.argon_kdf.specs.CostLimits.{checked_costs}
use Rattle.argon_kdf.specs.declared.costs.Costs.{Costs}
use Rattle.short_bytes.specs.Label.{IsLabel, label_of}
use Rattle.policy_ctx.specs.declared.policy.KeyId.{KeyId}
use Rattle.policy_ctx.specs.declared.policy.Pad.{Pad}
use Rattle.policy_ctx.specs.declared.policy.Pad.TheVariants.{P4, P8, P16, P32}
use Rattle.policy_ctx.specs.declared.policy.Unit.{Unit as DataUnit}
use Rattle.policy_ctx.specs.declared.policy.Unit.TheVariants.{Block, U512, U1024, U2048, U4096}
use Rattle.fsc_keys.specs.declared.raw_key.TheConstants.{MIN_RAW_KEY_BYTES, MAX_RAW_KEY_BYTES}
use Rattle.script_words.specs.Keys.{hex_of_size, hex_or_none, key_ref_of, key_ref_text, hex_or_none_text, IsKey}
use Rattle.script_words.specs.Numbers.{number_of, at_most, number_up_to, pad_of, unit_of, pad_text, unit_text}
use Rattle.script_words.specs.Records.{record_of, record_name, IsRecord}
use Rattle.script_words.specs.Secrets.{secret_of, secret_text, IsSecret}
use Rattle.script_words.specs.NewSecrets.{stretched_of, new_secret_of, new_secret_text, IsNewSecret}
use Rattle.script_words.specs.CostWords.{is_colon, number_and_rest, costs_of, costs_text}
use Rattle.script_words.specs.Word.{word_bytes, word_text}
use Rattle.script_words.specs.declared.limits.TheConstants.{RAW_SECRET_BYTES}
use Rattle.script_words.specs.declared.key_words.KeyRef.{KeyRef}
use Rattle.script_words.specs.declared.key_words.KeyRef.TheVariants.{Id, Raw}
use Rattle.script_words.specs.declared.record_words.Record.{Record}
use Rattle.script_words.specs.declared.record_words.Record.TheVariants.{Protector, Policy}
use Rattle.script_words.specs.declared.secrets.Secret.{Secret}
use Rattle.script_words.specs.declared.secrets.Secret.TheVariants as old
use Rattle.script_words.specs.declared.secrets.NewSecret.{NewSecret}
use Rattle.script_words.specs.declared.secrets.NewSecret.TheVariants as new
use Rattle.script_words.proofs.EscapeLemmas.{word_bytes-word_text}
use Rattle.script_words.proofs.PlainWords.{decimal_digits, costs_small}

chosen : {X : Type 0} (b : Bool) (o : Option X) → b ≡ true → (let p : Option X = if b then o else None in p ≡ o)
chosen b o h = rw h refl

-- ---- digits

pub hex_of_size-encode_lower : (low high : ℕ) (bytes : List ℕ) → low ≤ length bytes → length bytes ≤ high → IsBytes bytes
    → hex_of_size low high (encode_lower bytes) ≡ Some bytes
hex_of_size-encode_lower low high bytes small large h =
    let len = length-encode_with lower_digits bytes in
    let from : nat_le (2 * low) (length (encode_lower bytes)) ≡ true = le-leb _ _ (omega (arith, len)) in
    let to : nat_le (length (encode_lower bytes)) (2 * high) ≡ true = le-leb _ _ (omega (arith, len)) in
    chosen (nat_le (2 * low) (length (encode_lower bytes)) && nat_le (length (encode_lower bytes)) (2 * high)) (hex_bytes (encode_lower bytes)) (and_from _ _ from to)
    ∙ ap result_ok (decode_of-encode_lower bytes h)

pub hex_bytes_of_length-encode_lower : (n : ℕ) (bytes : List ℕ) → length bytes ≡ n → IsBytes bytes
    → hex_bytes_of_length n (encode_lower bytes) ≡ Some bytes
hex_bytes_of_length-encode_lower n bytes size h =
    let len = length-encode_with lower_digits bytes in
    let sized : (length (encode_lower bytes) == 2 * n) ≡ true = eq-eqb _ _ (omega (arith, len)) in
    chosen (length (encode_lower bytes) == 2 * n) (hex_bytes (encode_lower bytes)) sized
    ∙ ap result_ok (decode_of-encode_lower bytes h)

-- two digits and more are no `-`
no_dash : (word : List ℕ) → 2 ≤ length word → bytes_eq word (codes "-") ≡ false
no_dash [] two = absurd (omega arith)
no_dash (a ∷ []) two = absurd (omega arith)
no_dash (a ∷ b ∷ rest) two = by_first (a == 45)
  where
    by_first : (same : Bool) → (same && false) ≡ false
    by_first true = refl
    by_first false = refl

pub hex_or_none-text : (most : ℕ) (bytes : List ℕ) → length bytes ≤ most → IsBytes bytes
    → hex_or_none most (hex_or_none_text bytes) ≡ Some bytes
hex_or_none-text most [] few h = refl
hex_or_none-text most (b ∷ bytes) few h =
    let len = length-encode_with lower_digits (b ∷ bytes) in
    let none : bytes_eq (encode_lower (b ∷ bytes)) (codes "-") ≡ false = no_dash (encode_lower (b ∷ bytes)) (omega (arith, len)) in
    let some : nat_le 1 (length (b ∷ bytes)) ≡ true = le-leb 1 (length (b ∷ bytes)) (omega arith) in
    let written : hex_or_none_text (b ∷ bytes) ≡ encode_lower (b ∷ bytes) = first_text (nat_le 1 (length (b ∷ bytes))) (encode_lower (b ∷ bytes)) (codes "-") some in
    ap (hex_or_none most) written
    ∙ passed (bytes_eq (encode_lower (b ∷ bytes)) (codes "-")) (hex_of_size 1 most (encode_lower (b ∷ bytes))) none
    ∙ hex_of_size-encode_lower 1 most (b ∷ bytes) (omega arith) few h
  where
    passed : (dash : Bool) (o : Option (List ℕ)) → dash ≡ false → (let p : Option (List ℕ) = if dash then Some [] else o in p ≡ o)
    passed dash o other = rw other refl

    first_text : (some : Bool) (x y : List ℕ) → some ≡ true → (let t : List ℕ = if some then x else y in t ≡ x)
    first_text some x y h = rw h refl

abbrev id_from : Option (List ℕ) → Option KeyId
id_from o = option_map (λ bytes. record { 0 = bytes }) o

pub key_ref_of-text : (key : KeyRef) → IsKey key → key_ref_of (key_ref_text key) ≡ Some key
key_ref_of-text (Id id) h = ap (λ o. option_map Id (id_from o)) (hex_bytes_of_length-encode_lower 16 id.0 h.0 h.1)
key_ref_of-text (Raw raw) h =
    ap (option_map Raw) (hex_of_size-encode_lower MIN_RAW_KEY_BYTES MAX_RAW_KEY_BYTES raw h.0 h.1.0 h.1.1)

-- ---- numbers

pub number_of-text : (n : ℕ) → n < 2 ^ 32 → number_of (decimal_of n) ≡ Some n
number_of-text n small = number_below-decimal_of (2 ^ 32) n small (omega arith)

pub number_up_to-text : (most n : ℕ) → most < 2 ^ 32 → n ≤ most → number_up_to most (decimal_of n) ≡ Some n
number_up_to-text most n bound small =
    ap (option_and_then (at_most most)) (number_of-text n (omega arith)) ∙ rw (le-leb n most small) refl

pub pad_of-text : (pad : Pad) → pad_of (pad_text pad) ≡ Some pad
pad_of-text P4 = rw (number_of-text 4 (omega arith)) refl
pad_of-text P8 = rw (number_of-text 8 (omega arith)) refl
pad_of-text P16 = rw (number_of-text 16 (omega arith)) refl
pad_of-text P32 = rw (number_of-text 32 (omega arith)) refl

pub unit_of-text : (unit : DataUnit) → unit_of (unit_text unit) ≡ Some unit
unit_of-text Block = rw (number_of-text 0 (omega arith)) refl
unit_of-text U512 = rw (number_of-text 9 (omega arith)) refl
unit_of-text U1024 = rw (number_of-text 10 (omega arith)) refl
unit_of-text U2048 = rw (number_of-text 11 (omega arith)) refl
unit_of-text U4096 = rw (number_of-text 12 (omega arith)) refl

-- ---- labels and records

pub label_of-label : (label : List ℕ) → IsLabel label → label_of label ≡ Some label
label_of-label label is = rw is refl

pub record_of-name : (name : Record) → IsRecord name → record_of (record_name name) ≡ Some name
record_of-name (Protector label) is = ap (option_map Protector) (label_of-label label is)
record_of-name (Policy label) is = ap (option_map Policy) (label_of-label label is)

-- ---- secrets

pub secret_of-text : (secret : Secret) → IsSecret secret → secret_of (secret_text secret) ≡ Some secret
secret_of-text (old.Raw raw) h = ap (option_map old.Raw) (hex_bytes_of_length-encode_lower RAW_SECRET_BYTES raw h.0 h.1)
secret_of-text (old.Pass passphrase) h = ap (option_map old.Pass) (word_bytes-word_text passphrase h)

digit_is_no_colon : (b : ℕ) → is_ascii_digit b ≡ true → is_colon b ≡ false
digit_is_no_colon b digit = grind (arith, nat_tests)

take_front : (a b : List ℕ) (n : ℕ) → n ≡ length a → take n (a ++ b) ≡ a
take_front [] b n e = rw e refl
take_front (x ∷ a) b n e = rw e (ap (λ xs. x ∷ xs) (take_front a b (length a) refl))

drop_front : (a : List ℕ) (x : ℕ) (b : List ℕ) (n : ℕ) → n ≡ suc (length a) → drop n (a ++ x ∷ b) ≡ b
drop_front [] x b n e = rw e refl
drop_front (y ∷ a) x b n e = rw e (drop_front a x b (suc (length a)) refl)

-- a number before a colon
pub number_and_rest-text : (n : ℕ) (rest : List ℕ) → n < 2 ^ 32 → number_and_rest (decimal_of n ++ 58 ∷ rest) ≡ Some (n, rest)
number_and_rest-text n rest small =
    let digits = decimal_digits n (omega arith) in
    let text = decimal_of n ++ 58 ∷ rest in
    let longer : length text ≡ length (decimal_of n) + suc (length rest) = length-append (decimal_of n) (58 ∷ rest) in
    let place : position_or_len is_colon text ≡ length (decimal_of n) =
    position_or_len_is is_colon text (length (decimal_of n)) 0 (omega (arith, longer))
    (λ k lt. ap is_colon (get_or_append_left (decimal_of n) (58 ∷ rest) 0 k lt) ∙ digit_is_no_colon _ (digits k 0 lt))
    (λ lt. ap is_colon (get_or-append_seam (decimal_of n) 58 rest 0)) in
    let inside : nat_lt (position_or_len is_colon text) (length text) ≡ true = lt-ltb _ _ (omega (arith, place, longer)) in
    let front : before_first is_colon text ≡ decimal_of n = take_front (decimal_of n) (58 ∷ rest) _ place in
    let back : after_first is_colon text ≡ rest = drop_front (decimal_of n) 58 rest _ (omega (arith, place)) in
    chosen (nat_lt (position_or_len is_colon text) (length text)) _ inside
    ∙ ap (λ behind. option_map (λ number. (number, behind)) (number_of (before_first is_colon text))) back
    ∙ ap (λ before. option_map (λ number. (number, rest)) (number_of before)) front
    ∙ ap (option_map (λ number. (number, rest))) (number_of-text n small)

costs_of-checked : (costs : Costs) → checked_costs costs ≡ Ok tt → costs_of costs.passes costs.kib costs.lanes ≡ Some costs
costs_of-checked costs h = chosen (is_ok (checked_costs costs)) (Some costs) (ap is_ok h)

stretched_of-parts : (costs : Costs) (passphrase : List ℕ) (a b c d : List ℕ)
    → number_and_rest a ≡ Some (costs.passes, b) → number_and_rest b ≡ Some (costs.kib, c) → number_and_rest c ≡ Some (costs.lanes, d)
    → costs_of costs.passes costs.kib costs.lanes ≡ Some costs → word_bytes d ≡ Some passphrase
    → stretched_of a ≡ Some (new.Pass costs passphrase)
stretched_of-parts costs passphrase a b c d ha hb hc taken word = rw (ha, hb, hc, taken, word) refl

regrouped : (p k l word : List ℕ)
    → ((p ++ codes ":") ++ ((k ++ codes ":") ++ (l ++ codes ":"))) ++ word ≡ p ++ 58 ∷ (k ++ 58 ∷ (l ++ 58 ∷ word))
regrouped p k l word = simp append_assoc

stretched_of-text : (costs : Costs) (passphrase : List ℕ) → IsNewSecret (new.Pass costs passphrase)
    → stretched_of (costs_text costs ++ word_text passphrase) ≡ Some (new.Pass costs passphrase)
stretched_of-text costs passphrase h =
    let small = costs_small costs h.0 in
    let last = word_text passphrase in
    let third = decimal_of costs.lanes ++ 58 ∷ last in
    let second = decimal_of costs.kib ++ 58 ∷ third in
    let first = decimal_of costs.passes ++ 58 ∷ second in
    ap stretched_of (regrouped (decimal_of costs.passes) (decimal_of costs.kib) (decimal_of costs.lanes) last)
    ∙ stretched_of-parts costs passphrase first second third last
    (number_and_rest-text costs.passes second (omega (arith, small.0)))
    (number_and_rest-text costs.kib third (omega (arith, small.2)))
    (number_and_rest-text costs.lanes last (omega (arith, small.1)))
    (costs_of-checked costs h.0) (word_bytes-word_text passphrase h.1)

pub new_secret_of-text : (secret : NewSecret) → IsNewSecret secret → new_secret_of (new_secret_text secret) ≡ Some secret
new_secret_of-text (new.Raw raw) h = ap (option_map new.Raw) (hex_bytes_of_length-encode_lower RAW_SECRET_BYTES raw h.0 h.1)
new_secret_of-text (new.Pass costs passphrase) h = stretched_of-text costs passphrase h
