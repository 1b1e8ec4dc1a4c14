-- What each word spells can be asked for.
use Rattle.std.proofs.Common.{◌≡◌, ℕ, ◌<◌, ◌≤◌, ◌^◌, ◌*◌, ◌&&◌, Bool, true, false, List, [], length, drop, codes, Option, Some, None, Result, Ok, Err, refl, arith}
use Rattle.std.specs.Prelude.{IfSome, IsTrue, nat_lt, nat_le, nat_eq, is_ok, if◌then◌else◌}
use Rattle.std.specs.List.{starts_with}
use Rattle.std.specs.Option.{option_map, option_and_then}
use Rattle.std.specs.Result.{result_ok}
use Rattle.std.specs.Str.{bytes_eq}
use Rattle.std.specs.Str.Parse.{digits_value}
use Rattle.std.proofs.lemmas.Bool.{and_parts, ltb-true, leb-true}
use Rattle.hex.specs.Hex.{IsBytes, decode_of}
use Rattle.hex.specs.declared.error.FromHexError.{FromHexError}
use Rattle.hex.proofs.HexLemmas.{decode_of-ok}
use Rattle.text_words.specs.Digits.{hex_bytes, hex_bytes_of_length}
use Rattle.text_words.specs.Numbers.{number_below, is_decimal}
use Rattle.text_words.proofs.DigitLemmas.{spells}
use Rattle.argon_kdf.specs.CostLimits.{checked_costs}
use Rattle.argon_kdf.specs.declared.costs.Costs.{Costs}
use Rattle.argon_kdf.specs.declared.costs.CostFault.{CostFault}
use Rattle.short_bytes.specs.Label.{IsLabel, is_label, label_of}
use Rattle.fsc_keys.specs.declared.raw_key.TheConstants.{MIN_RAW_KEY_BYTES, MAX_RAW_KEY_BYTES}
use Rattle.script_words.specs.Keys.{hex_of_size, hex_or_none, id_of, raw_key_of, key_ref_of, IsKey, AreFewBytes}
use Rattle.script_words.specs.Numbers.{number_of, at_most, number_up_to, IsNumber}
use Rattle.script_words.specs.Records.{record_of, IsRecord}
use Rattle.script_words.specs.Secrets.{raw_secret_of, secret_of, IsRawSecret, IsSecret}
use Rattle.script_words.specs.NewSecrets.{stretched_of, new_secret_of, IsNewSecret}
use Rattle.script_words.specs.CostWords.{number_and_rest, costs_of}
use Rattle.script_words.specs.Word.{IsWord, word_bytes, may_be_target, target_bytes}
use Rattle.script_words.specs.Path.{IsPath, path_of}
use Rattle.script_words.specs.declared.limits.TheConstants.{RAW_SECRET_BYTES}
use Rattle.script_words.specs.declared.key_words.KeyRef.TheVariants.{Id, Raw}
use Rattle.script_words.specs.declared.record_words.Record.TheVariants.{Protector, Policy}
use Rattle.script_words.specs.declared.secrets.Secret.TheVariants as old
use Rattle.script_words.specs.declared.secrets.NewSecret.TheVariants as new
use Rattle.script_words.proofs.EscapeLemmas.{IsWord-word_bytes, IsWord-target_bytes}
use Rattle.script_words.proofs.PathLemmas.{IsPath-path_of}

-- ---- one of two, a value made into another, and one step after another

pub chosen_some : {X : Type 0} (P : X → Type 0) (b : Bool) (x y : Option X) → IfSome x P → IfSome y P
    → (let o : Option X = if b then x else y in IfSome o P)
chosen_some P true x y hx hy = hx
chosen_some P false x y hx hy = hy

pub mapped_some : {X Y : Type 0} (P : Y → Type 0) (f : X → Y) (o : Option X) → IfSome o (λ x. P (f x)) → IfSome (option_map f o) P
mapped_some P f None h = tt
mapped_some P f (Some x) h = h

pub then_some : {X Y : Type 0} (Q : X → Type 0) (P : Y → Type 0) (f : X → Option Y) (o : Option X) → IfSome o Q
    → ((x : X) → Q x → IfSome (f x) P) → IfSome (option_and_then f o) P
then_some Q P f None h next = tt
then_some Q P f (Some x) h next = next x h

pub of_some : {X : Type 0} (P : X → Type 0) (o : Option X) → ((x : X) → o ≡ Some x → P x) → IfSome o P
of_some P None h = tt
of_some P (Some x) h = h x refl

-- ---- what one word spells

pub number_below-lt : (limit : ℕ) (text : List ℕ) → IfSome (number_below limit text) (λ n. n < limit)
number_below-lt limit text = taken (is_decimal text) (digits_value 10 text)
  where
    taken : (b : Bool) (n : ℕ) → (let o : Option ℕ = if b && nat_lt n limit then Some n else None in IfSome o (λ n. n < limit))
    taken b n = small (b && nat_lt n limit) refl
      where
        small : (test : Bool) → b && nat_lt n limit ≡ test → (let o : Option ℕ = if test then Some n else None in IfSome o (λ n. n < limit))
        small true h = ltb-true n limit (and_parts b (nat_lt n limit) h).1
        small false h = tt

pub number_of-small : (text : List ℕ) → IfSome (number_of text) IsNumber
number_of-small text = number_below-lt (2 ^ 32) text

pub at_most-le : (most n : ℕ) → IfSome (at_most most n) (λ n. n ≤ most)
at_most-le most n = by_test (nat_le n most) refl
  where
    by_test : (test : Bool) → nat_le n most ≡ test → (let o : Option ℕ = if test then Some n else None in IfSome o (λ n. n ≤ most))
    by_test true h = leb-true n most h
    by_test false h = tt

pub number_up_to-le : (most : ℕ) (text : List ℕ) → IfSome (number_up_to most text) (λ n. n ≤ most)
number_up_to-le most text =
    then_some IsNumber (λ n. n ≤ most) (at_most most) (number_of text) (number_of-small text) (λ n h. at_most-le most n)

pub hex_of_size-bytes : (low high : ℕ) (word : List ℕ)
    → IfSome (hex_of_size low high word) (λ bytes. (low ≤ length bytes) × ((length bytes ≤ high) × IsBytes bytes))
hex_of_size-bytes low high word = sized (nat_le (2 * low) (length word) && nat_le (length word) (2 * high)) refl
  where
    fits : (2 * low ≤ length word) → (length word ≤ 2 * high) → (r : Result (List ℕ) FromHexError) → decode_of word ≡ r
        → IfSome (result_ok r) (λ bytes. (low ≤ length bytes) × ((length bytes ≤ high) × IsBytes bytes))
    fits small large (Ok bytes) h =
        let parts = decode_of-ok word bytes h in
        (omega (arith, parts.2), (omega (arith, parts.2), parts.3))
    fits small large (Err fault) h = tt

    sized : (test : Bool) → nat_le (2 * low) (length word) && nat_le (length word) (2 * high) ≡ test
        → (let o : Option (List ℕ) = if test then hex_bytes word else None in IfSome o (λ bytes. (low ≤ length bytes) × ((length bytes ≤ high) × IsBytes bytes)))
    sized true h =
        let parts = and_parts (nat_le (2 * low) (length word)) (nat_le (length word) (2 * high)) h in
        fits (leb-true _ _ parts.0) (leb-true _ _ parts.1) (decode_of word) refl
    sized false h = tt

pub no_bytes : IsBytes []
no_bytes k = omega arith

pub hex_or_none-few : (most : ℕ) (word : List ℕ) → IfSome (hex_or_none most word) (λ bytes. AreFewBytes bytes most)
hex_or_none-few most word =
    chosen_some (λ bytes. AreFewBytes bytes most) (bytes_eq word (codes "-")) (Some []) (hex_of_size 1 most word) (omega arith, no_bytes)
    (fewer (hex_of_size 1 most word) (hex_of_size-bytes 1 most word))
  where
    fewer : (o : Option (List ℕ)) → IfSome o (λ bytes. (1 ≤ length bytes) × ((length bytes ≤ most) × IsBytes bytes))
        → IfSome o (λ bytes. AreFewBytes bytes most)
    fewer None h = tt
    fewer (Some bytes) h = h.1

pub hex_bytes_of_length-bytes : (n : ℕ) (word : List ℕ) → IfSome (hex_bytes_of_length n word) (λ bytes. (length bytes ≡ n) × IsBytes bytes)
hex_bytes_of_length-bytes n word = of_some _ (hex_bytes_of_length n word) spelled
  where
    spelled : (bytes : List ℕ) → hex_bytes_of_length n word ≡ Some bytes → (length bytes ≡ n) × IsBytes bytes
    spelled bytes h =
        let parts = spells word n bytes h in
        let read = decode_of-ok word bytes parts.1 in
        (omega (arith, parts.0, read.2), read.3)

pub key_ref_of-key : (word : List ℕ) → IfSome (key_ref_of word) IsKey
key_ref_of-key word =
    chosen_some IsKey (starts_with nat_eq word (codes "id:")) _ _
    (mapped_some IsKey Id (id_of (drop 3 word)) (mapped_some _ _ (hex_bytes_of_length 16 (drop 3 word)) (hex_bytes_of_length-bytes 16 (drop 3 word))))
    (chosen_some IsKey (starts_with nat_eq word (codes "raw:")) _ _
    (mapped_some IsKey Raw (raw_key_of (drop 4 word)) (hex_of_size-bytes MIN_RAW_KEY_BYTES MAX_RAW_KEY_BYTES (drop 4 word))) tt)

pub label_of-label : (word : List ℕ) → IfSome (label_of word) IsLabel
label_of-label word = by_test (is_label word) refl
  where
    by_test : (test : Bool) → is_label word ≡ test → (let o : Option (List ℕ) = if test then Some word else None in IfSome o IsLabel)
    by_test true h = h
    by_test false h = tt

pub record_of-record : (word : List ℕ) → IfSome (record_of word) IsRecord
record_of-record word =
    chosen_some IsRecord (starts_with nat_eq word (codes "protector/")) _ _
    (mapped_some IsRecord Protector (label_of (drop 10 word)) (label_of-label (drop 10 word)))
    (chosen_some IsRecord (starts_with nat_eq word (codes "policy/")) _ _
    (mapped_some IsRecord Policy (label_of (drop 7 word)) (label_of-label (drop 7 word))) tt)

pub path_of-path : (word : List ℕ) → IfSome (path_of word) IsPath
path_of-path word = of_some IsPath (path_of word) (IsPath-path_of word)

pub word_bytes-word : (word : List ℕ) → IfSome (word_bytes word) IsWord
word_bytes-word word = of_some IsWord (word_bytes word) (IsWord-word_bytes word)

pub target_bytes-target : (word : List ℕ) → IfSome (target_bytes word) (λ target. IsWord target × IsTrue (may_be_target target))
target_bytes-target word = of_some _ (target_bytes word) (IsWord-target_bytes word)

pub raw_secret_of-raw : (word : List ℕ) → IfSome (raw_secret_of word) IsRawSecret
raw_secret_of-raw word = hex_bytes_of_length-bytes RAW_SECRET_BYTES word

pub secret_of-secret : (word : List ℕ) → IfSome (secret_of word) IsSecret
secret_of-secret word =
    chosen_some IsSecret (starts_with nat_eq word (codes "raw:")) _ _
    (mapped_some IsSecret old.Raw (raw_secret_of (drop 4 word)) (raw_secret_of-raw (drop 4 word)))
    (chosen_some IsSecret (starts_with nat_eq word (codes "pass:")) _ _
    (mapped_some IsSecret old.Pass (word_bytes (drop 5 word)) (word_bytes-word (drop 5 word))) tt)

pub costs_of-checked : (p k l : ℕ) → IfSome (costs_of p k l) (λ costs. checked_costs costs ≡ Ok tt)
costs_of-checked p k l =
    let costs : Costs = record { passes = p; kib = k; lanes = l } in
    by_test costs (checked_costs costs) refl
  where
    by_test : (costs : Costs) (r : Result (Unit {0}) CostFault) → checked_costs costs ≡ r
        → (let o : Option Costs = if is_ok r then Some costs else None in IfSome o (λ costs. checked_costs costs ≡ Ok tt))
    by_test costs (Ok tt) h = h
    by_test costs (Err fault) h = tt

-- any value will do
pub anything : {X : Type 0} (o : Option X) → IfSome o (λ _. Unit {0})
anything None = tt
anything (Some x) = tt

pub stretched_of-secret : (text : List ℕ) → IfSome (stretched_of text) IsNewSecret
stretched_of-secret text =
    then_some (λ _. Unit {0}) IsNewSecret _ (number_and_rest text) (anything _) (λ passes _.
    then_some (λ _. Unit {0}) IsNewSecret _ (number_and_rest passes.1) (anything _) (λ kib _.
    then_some (λ _. Unit {0}) IsNewSecret _ (number_and_rest kib.1) (anything _) (λ lanes _.
    then_some (λ costs. checked_costs costs ≡ Ok tt) IsNewSecret _ (costs_of passes.0 kib.0 lanes.0) (costs_of-checked passes.0 kib.0 lanes.0) (λ costs checked.
    mapped_some IsNewSecret (λ passphrase. new.Pass costs passphrase) (word_bytes lanes.1) (with_costs costs checked (word_bytes lanes.1) (word_bytes-word lanes.1))))))
  where
    with_costs : (costs : Costs) → checked_costs costs ≡ Ok tt → (o : Option (List ℕ)) → IfSome o IsWord
        → IfSome o (λ passphrase. IsNewSecret (new.Pass costs passphrase))
    with_costs costs checked None h = tt
    with_costs costs checked (Some passphrase) h = (checked, h)

pub new_secret_of-secret : (word : List ℕ) → IfSome (new_secret_of word) IsNewSecret
new_secret_of-secret word =
    chosen_some IsNewSecret (starts_with nat_eq word (codes "raw:")) _ _
    (mapped_some IsNewSecret new.Raw (raw_secret_of (drop 4 word)) (raw_secret_of-raw (drop 4 word)))
    (chosen_some IsNewSecret (starts_with nat_eq word (codes "pass:")) _ _ (stretched_of-secret (drop 5 word)) tt)
