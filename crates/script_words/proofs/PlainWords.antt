-- What is written of words has no byte that separates words or lines.
use Rattle.std.proofs.Common.{◌≡◌, ℕ, ◌<◌, ◌≤◌, ◌^◌, ◌*◌, ◌==◌, Bool, true, false, List, [], ◌∷◌, ◌++◌, length, codes, Result, Ok, Err, refl, arith}
use Rattle.std.specs.Prelude.{nat_le, if◌then◌else◌}
use Rattle.std.specs.Int.{is_in_range}
use Rattle.std.specs.List.{All, AllPass, list_all}
use Rattle.std.specs.Char.{is_ascii_digit, is_ascii_graphic}
use Rattle.std.proofs.lemmas.Bool.{and_parts, leb-true}
use Rattle.std.proofs.lemmas.Bool.Decides.{nat_tests}
use Rattle.std.proofs.lemmas.List.Elements.{All-nil, All-cons, All-head, All-tail, All-append}
use Rattle.std.proofs.lemmas.List.Sums.{AllPass-from_list_all}
use Rattle.hex.specs.Hex.{IsBytes, encode_lower, is_hex_digit}
use Rattle.hex.proofs.HexLemmas.{decode_of-ok, decode_of-encode_lower}
use Rattle.text_words.specs.Numbers.{decimal_of}
use Rattle.text_words.proofs.NumberLemmas.{IsDecimal-decimal_of, test-from_IsDecimal}
use Rattle.argon_kdf.specs.CostLimits.{checked_costs}
use Rattle.argon_kdf.specs.declared.costs.Costs.{Costs}
use Rattle.argon_kdf.specs.declared.costs.CostFault.{CostFault}
use Rattle.argon_kdf.specs.declared.costs.CostFault.TheVariants.{Passes, Lanes, Kib}
use Rattle.short_bytes.specs.Label.{IsLabel, is_label_character}
use Rattle.policy_ctx.specs.declared.policy.Pad.{Pad}
use Rattle.policy_ctx.specs.declared.policy.Pad.TheVariants.{P4, P8, P16, P32}
use Rattle.policy_ctx.specs.declared.policy.Unit.{Unit as DataUnit}
use Rattle.policy_ctx.specs.declared.policy.Unit.TheVariants.{Block, U512, U1024, U2048, U4096}
use Rattle.script_words.specs.Keys.{key_ref_text, hex_or_none_text, IsKey}
use Rattle.script_words.specs.Numbers.{pad_text, unit_text}
use Rattle.script_words.specs.Records.{record_name, IsRecord}
use Rattle.script_words.specs.Secrets.{secret_text, IsSecret}
use Rattle.script_words.specs.NewSecrets.{new_secret_text, IsNewSecret}
use Rattle.script_words.specs.CostWords.{costs_text, cost_text}
use Rattle.script_words.specs.Word.{word_text}
use Rattle.script_words.specs.Path.{IsPart, IsPath}
use Rattle.script_words.specs.PathText.{part_text, parts_text, path_text}
use Rattle.script_words.specs.declared.path.ScriptPart.{ScriptPart}
use Rattle.script_words.specs.declared.path.ScriptPart.TheVariants.{Given, Star}
use Rattle.script_words.specs.declared.key_words.KeyRef.{KeyRef}
use Rattle.script_words.specs.declared.key_words.KeyRef.TheVariants.{Id, Raw}
use Rattle.script_words.specs.declared.record_words.Record.{Record}
use Rattle.script_words.specs.declared.record_words.Record.TheVariants.{Protector, Policy}
use Rattle.script_words.specs.declared.secrets.Secret.{Secret}
use Rattle.script_words.specs.declared.secrets.Secret.TheVariants as old
use Rattle.script_words.specs.declared.secrets.NewSecret.{NewSecret}
use Rattle.script_words.specs.declared.secrets.NewSecret.TheVariants as new
use Rattle.script_words.proofs.EscapeLemmas.{graphic_text}

-- each byte is greater than the space
abbrev pub IsPlain : List ℕ → Type 0
IsPlain word = All (λ b. 33 ≤ b) word

-- each word does
abbrev pub ArePlain : List (List ℕ) → Type 0
ArePlain [] = Unit {0}
ArePlain (word ∷ words) = IsPlain word × ArePlain words

pub IsPlain-from_test : (word : List ℕ) → list_all (λ b. nat_le 33 b) word ≡ true → IsPlain word
IsPlain-from_test word h k d lt = leb-true 33 _ (AllPass-from_list_all (λ b. nat_le 33 b) word h k d lt)

IsPlain-passing : (p : ℕ → Bool) → ((b : ℕ) → p b ≡ true → 33 ≤ b) → (word : List ℕ) → AllPass p word → IsPlain word
IsPlain-passing p high word h k d lt = high _ (h k d lt)

pub IsPlain-append : (a b : List ℕ) → IsPlain a → IsPlain b → IsPlain (a ++ b)
IsPlain-append a b ha hb = All-append (λ (c : ℕ). 33 ≤ c) a b ha hb

pub other : (b c : ℕ) → 33 ≤ b → c < 33 → (b == c) ≡ false
other b c high low = grind (arith, nat_tests)

pub without : (word : List ℕ) (c : ℕ) → IsPlain word → c < 33 → All (λ b. (b == c) ≡ false) word
without word c h low k d lt = other _ c (h k d lt) low

-- ---- digits

pub IsPlain-encode_lower : (bytes : List ℕ) → IsBytes bytes → IsPlain (encode_lower bytes)
IsPlain-encode_lower bytes h =
    IsPlain-passing is_hex_digit high (encode_lower bytes) (decode_of-ok (encode_lower bytes) bytes (decode_of-encode_lower bytes h)).1
  where
    high : (b : ℕ) → is_hex_digit b ≡ true → 33 ≤ b
    high b h = grind (arith, nat_tests)

-- the digits of a number
pub decimal_digits : (n : ℕ) → n < 2 ^ 64 → AllPass is_ascii_digit (decimal_of n)
decimal_digits n small =
    let test = and_parts _ _ (and_parts _ _ (test-from_IsDecimal (decimal_of n) n (IsDecimal-decimal_of n small))).0 in
    AllPass-from_list_all is_ascii_digit (decimal_of n) test.1

pub IsPlain-decimal_of : (n : ℕ) → n < 2 ^ 64 → IsPlain (decimal_of n)
IsPlain-decimal_of n small = IsPlain-passing is_ascii_digit high (decimal_of n) (decimal_digits n small)
  where
    high : (b : ℕ) → is_ascii_digit b ≡ true → 33 ≤ b
    high b h = grind (arith, nat_tests)

pub IsPlain-number : (n : ℕ) → n < 2 ^ 32 → IsPlain (decimal_of n)
IsPlain-number n small = IsPlain-decimal_of n (omega arith)

pub IsPlain-pad_text : (pad : Pad) → IsPlain (pad_text pad)
IsPlain-pad_text P4 = IsPlain-decimal_of 4 (omega arith)
IsPlain-pad_text P8 = IsPlain-decimal_of 8 (omega arith)
IsPlain-pad_text P16 = IsPlain-decimal_of 16 (omega arith)
IsPlain-pad_text P32 = IsPlain-decimal_of 32 (omega arith)

pub IsPlain-unit_text : (unit : DataUnit) → IsPlain (unit_text unit)
IsPlain-unit_text Block = IsPlain-decimal_of 0 (omega arith)
IsPlain-unit_text U512 = IsPlain-decimal_of 9 (omega arith)
IsPlain-unit_text U1024 = IsPlain-decimal_of 10 (omega arith)
IsPlain-unit_text U2048 = IsPlain-decimal_of 11 (omega arith)
IsPlain-unit_text U4096 = IsPlain-decimal_of 12 (omega arith)

pub IsPlain-hex_or_none : (bytes : List ℕ) → IsBytes bytes → IsPlain (hex_or_none_text bytes)
IsPlain-hex_or_none bytes h = by_size (nat_le 1 (length bytes))
  where
    by_size : (some : Bool) → (let text : List ℕ = if some then encode_lower bytes else codes "-" in IsPlain text)
    by_size true = IsPlain-encode_lower bytes h
    by_size false = IsPlain-from_test (codes "-") refl

-- ---- words and paths

pub IsPlain-word_text : (bytes : List ℕ) → IsPlain (word_text bytes)
IsPlain-word_text bytes =
    IsPlain-passing is_ascii_graphic high (word_text bytes) (AllPass-from_list_all is_ascii_graphic (word_text bytes) (graphic_text bytes))
  where
    high : (b : ℕ) → is_ascii_graphic b ≡ true → 33 ≤ b
    high b h = grind (arith, nat_tests)

IsPlain-part_text : (part : ScriptPart) → IsPart part → IsPlain (part_text part)
IsPlain-part_text (Given bytes) is = IsPlain-word_text bytes
IsPlain-part_text (Star number) is =
    All-cons (λ (b : ℕ). 33 ≤ b) 42 (decimal_of number) (omega arith) (IsPlain-number number is)

IsPlain-parts_text : (parts : List ScriptPart) → All IsPart parts → IsPlain (parts_text parts)
IsPlain-parts_text [] each = All-nil (λ (b : ℕ). 33 ≤ b)
IsPlain-parts_text (part ∷ parts) each =
    All-cons (λ (b : ℕ). 33 ≤ b) 47 (part_text part ++ parts_text parts) (omega arith)
    (IsPlain-append (part_text part) (parts_text parts) (IsPlain-part_text part (All-head IsPart part parts each))
    (IsPlain-parts_text parts (All-tail IsPart part parts each)))

pub IsPlain-path_text : (path : List ScriptPart) → IsPath path → IsPlain (path_text path)
unfolding path_text
IsPlain-path_text [] is = IsPlain-from_test (codes "/") refl
IsPlain-path_text (part ∷ parts) is = IsPlain-parts_text (part ∷ parts) is.each

-- ---- labels, records and keys

pub IsPlain-label : (label : List ℕ) → IsLabel label → IsPlain label
IsPlain-label label is =
    let characters = (and_parts _ _ (and_parts _ _ is).1).1 in
    IsPlain-passing is_label_character high label (AllPass-from_list_all is_label_character label characters)
  where
    high : (b : ℕ) → is_label_character b ≡ true → 33 ≤ b
    high b h = grind (arith, nat_tests)

pub IsPlain-record_name : (name : Record) → IsRecord name → IsPlain (record_name name)
IsPlain-record_name (Protector label) is =
    IsPlain-append (codes "protector/") label (IsPlain-from_test (codes "protector/") refl) (IsPlain-label label is)
IsPlain-record_name (Policy label) is =
    IsPlain-append (codes "policy/") label (IsPlain-from_test (codes "policy/") refl) (IsPlain-label label is)

pub IsPlain-key_ref_text : (key : KeyRef) → IsKey key → IsPlain (key_ref_text key)
IsPlain-key_ref_text (Id id) h =
    IsPlain-append (codes "id:") (encode_lower id.0) (IsPlain-from_test (codes "id:") refl) (IsPlain-encode_lower id.0 h.1)
IsPlain-key_ref_text (Raw raw) h =
    IsPlain-append (codes "raw:") (encode_lower raw) (IsPlain-from_test (codes "raw:") refl) (IsPlain-encode_lower raw h.1.1)

-- ---- secrets

pub IsPlain-secret_text : (secret : Secret) → IsSecret secret → IsPlain (secret_text secret)
IsPlain-secret_text (old.Raw raw) h =
    IsPlain-append (codes "raw:") (encode_lower raw) (IsPlain-from_test (codes "raw:") refl) (IsPlain-encode_lower raw h.1)
IsPlain-secret_text (old.Pass passphrase) h =
    IsPlain-append (codes "pass:") (word_text passphrase) (IsPlain-from_test (codes "pass:") refl) (IsPlain-word_text passphrase)

pub costs_small : (c : Costs) → checked_costs c ≡ Ok tt → (c.passes ≤ 16) × (c.lanes ≤ 8) × (c.kib ≤ 65536)
costs_small c h =
    let all = within (is_in_range 1 16 c.passes) (is_in_range 1 8 c.lanes) (is_in_range (8 * c.lanes) 65536 c.kib) h in
    (top 1 16 c.passes all.0, top 1 8 c.lanes all.1, top (8 * c.lanes) 65536 c.kib all.2)
  where
    within : (a b d : Bool)
        → (let r : Result (Unit {0}) CostFault = if a then if b then if d then Ok tt else Err Kib else Err Lanes else Err Passes in r ≡ Ok tt)
        → (a ≡ true) × (b ≡ true) × (d ≡ true)
    within true true true h = (refl, refl, refl)
    within true true false h = absurd (cc h)
    within true false d h = absurd (cc h)
    within false b d h = absurd (cc h)

    top : (lo hi n : ℕ) → is_in_range lo hi n ≡ true → n ≤ hi
    top lo hi n h = leb-true _ _ (and_parts (nat_le lo n) (nat_le n hi) h).1

IsPlain-cost_text : (cost : ℕ) → cost < 2 ^ 64 → IsPlain (cost_text cost)
IsPlain-cost_text cost small =
    IsPlain-append (decimal_of cost) (codes ":") (IsPlain-decimal_of cost small) (IsPlain-from_test (codes ":") refl)

IsPlain-costs_text : (costs : Costs) → checked_costs costs ≡ Ok tt → IsPlain (costs_text costs)
IsPlain-costs_text costs h =
    let small = costs_small costs h in
    IsPlain-append (cost_text costs.passes) (cost_text costs.kib ++ cost_text costs.lanes) (IsPlain-cost_text costs.passes (omega (arith, small.0)))
    (IsPlain-append (cost_text costs.kib) (cost_text costs.lanes) (IsPlain-cost_text costs.kib (omega (arith, small.2)))
    (IsPlain-cost_text costs.lanes (omega (arith, small.1))))

pub IsPlain-new_secret_text : (secret : NewSecret) → IsNewSecret secret → IsPlain (new_secret_text secret)
IsPlain-new_secret_text (new.Raw raw) h =
    IsPlain-append (codes "raw:") (encode_lower raw) (IsPlain-from_test (codes "raw:") refl) (IsPlain-encode_lower raw h.1)
IsPlain-new_secret_text (new.Pass costs passphrase) h =
    IsPlain-append (codes "pass:") (costs_text costs ++ word_text passphrase) (IsPlain-from_test (codes "pass:") refl)
    (IsPlain-append (costs_text costs) (word_text passphrase) (IsPlain-costs_text costs h.0) (IsPlain-word_text passphrase))
