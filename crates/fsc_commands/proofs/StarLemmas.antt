-- What the parts of a script's path mean can be a part of a path that a mount is asked for.
use Rattle.std.proofs.Common.{◌≡◌, ℕ, zero, suc, ◌+◌, ◌<◌, ◌≤◌, ◌^◌, ◌&&◌, Bool, true, false, not, List, [], ◌∷◌, ◌++◌, length, take, get_or, map, refl, ap, sym, ◌∙◌, leb-true, lit<, arith}
use Rattle.std.specs.Prelude.{IsTrue, nat_le}
use Rattle.std.specs.List.{All, AllPass, Contains, list_any}
use Rattle.std.specs.Char.{is_ascii_digit}
use Rattle.std.proofs.lemmas.Bool.{and_parts, and_from}
use Rattle.std.proofs.lemmas.Bool.Decides.{nat_tests}
use Rattle.std.proofs.lemmas.Fmt.{length-decimal-le}
use Rattle.std.proofs.lemmas.List.{take_more, map-append}
use Rattle.std.proofs.lemmas.List.Elements.{All-nil, All-cons, All-head, All-tail, All-append}
use Rattle.std.proofs.lemmas.List.Folds.{list_any_at, list_any_none}
use Rattle.std.proofs.lemmas.List.Sums.{AllPass-from_list_all}
use Rattle.byte_words.specs.Bytes.{AreBytes}
use Rattle.text_words.specs.Numbers.{decimal_of}
use Rattle.text_words.proofs.NumberLemmas.{IsDecimal-decimal_of, test-from_IsDecimal}
use Rattle.mount_model.specs.Carried as carried
use Rattle.script_words.specs.Path.{is_slash_or_nul, is_dots, may_be_part}
use Rattle.script_words.specs.Word.{IsWord}
use Rattle.script_words.specs.declared.path.ScriptPart.{ScriptPart}
use Rattle.fsc_commands.specs.Stars.{could_be_part, star_text}

-- ---- one part more

pub parts-more : (f : ScriptPart → List ℕ) (parts : List ScriptPart) (i : ℕ) (part : ScriptPart) → i < length parts
    → part ≡ get_or parts i part → map f (take (i + 1) parts) ≡ map f (take i parts) ++ f part ∷ []
parts-more f parts i part below here =
    ap (map f) (take_more parts i part below ∙ ap (λ p. take i parts ++ p ∷ []) (sym here)) ∙ map-append f (take i parts) (part ∷ [])

pub all-more : (meant : List (List ℕ)) (bytes : List ℕ) → All carried.IsPart meant → carried.IsPart bytes → All carried.IsPart (meant ++ bytes ∷ [])
all-more meant bytes all here = All-append carried.IsPart meant (bytes ∷ []) all (All-cons carried.IsPart bytes [] here (All-nil carried.IsPart))

-- ---- what fits

pub are_bytes : (xs : List ℕ) → All (λ b. b < 256) xs → AreBytes xs
are_bytes [] h i = lit< tt
are_bytes (x ∷ xs) h zero = All-head (λ b. b < 256) x xs h
are_bytes (x ∷ xs) h (suc i) = are_bytes xs (All-tail (λ b. b < 256) x xs h) i

pub absent : (test : ℕ → Bool) (bytes : List ℕ) (b : ℕ) → test b ≡ true → not (list_any test bytes) ≡ true → ¬ Contains bytes b
absent test bytes b is none (k, below, here) = never (list_any test bytes) (list_any_at test bytes k b below (ap test here ∙ is)) none
  where
    never : (any : Bool) → any ≡ true → not any ≡ true → ⊥
    never true e h = absurd (cc h)
    never false e h = absurd (cc e)

pub part_fits : (bytes : List ℕ) → AreBytes bytes → 1 ≤ length bytes → length bytes ≤ 1000 → may_be_part bytes ≡ true → carried.IsPart bytes
part_fits bytes ranged low high may =
    let parts = and_parts (not (list_any is_slash_or_nul bytes)) (not (is_dots bytes)) may in
    record {
      bytes = ranged;
      size = (low, high);
      slash = absent is_slash_or_nul bytes 47 refl parts.0;
      nul = absent is_slash_or_nul bytes 0 refl parts.0;
      dot = λ e. dots (46 ∷ []) e refl parts.1;
      dots = λ e. dots (46 ∷ 46 ∷ []) e refl parts.1;
    }
  where
    dots : (other : List ℕ) → bytes ≡ other → is_dots other ≡ true → not (is_dots bytes) ≡ true → ⊥
    dots other e is none = never (is_dots bytes) (ap is_dots e ∙ is) none
      where
        never : (any : Bool) → any ≡ true → not any ≡ true → ⊥
        never true e h = absurd (cc h)
        never false e h = absurd (cc e)

pub given_fits : (bytes : List ℕ) → IsWord bytes → IsTrue (may_be_part bytes) → carried.IsPart bytes
given_fits bytes word may = part_fits bytes (are_bytes bytes word.ranged) word.nonempty word.bounded may

pub name_fits : (name : List ℕ) → AreBytes name → could_be_part name ≡ true → carried.IsPart name
name_fits name ranged could =
    let parts = and_parts (nat_le 1 (length name) && nat_le (length name) 1000) (may_be_part name) could in
    let sizes = and_parts (nat_le 1 (length name)) (nat_le (length name) 1000) parts.0 in
    part_fits name ranged (leb-true 1 (length name) sizes.0) (leb-true (length name) 1000 sizes.1) parts.1

digit_is_none : (b : ℕ) → is_ascii_digit b ≡ true → is_slash_or_nul b ≡ false
digit_is_none b h = grind (arith, nat_tests)

digit_is_byte : (b : ℕ) → is_ascii_digit b ≡ true → b < 256
digit_is_byte b h = grind (arith, nat_tests)

digits : (n : ℕ) → n < 2 ^ 32 → AllPass is_ascii_digit (decimal_of n)
digits n small =
    let test = and_parts _ _ (and_parts _ _ (test-from_IsDecimal (decimal_of n) n (IsDecimal-decimal_of n (omega arith)))).0 in
    AllPass-from_list_all is_ascii_digit (decimal_of n) test.1

pub star_fits : (n : ℕ) → n < 2 ^ 32 → carried.IsPart (star_text n)
star_fits n small =
    let all = digits n small in
    let ranged : All (λ b. b < 256) (42 ∷ decimal_of n) = All-cons (λ b. b < 256) 42 (decimal_of n) (lit< tt) (λ k d below. digit_is_byte (get_or (decimal_of n) k d) (all k d below)) in
    let free : All (λ b. is_slash_or_nul b ≡ false) (42 ∷ decimal_of n) = All-cons (λ b. is_slash_or_nul b ≡ false) 42 (decimal_of n) refl (λ k d below. digit_is_none (get_or (decimal_of n) k d) (all k d below)) in
    let none : not (list_any is_slash_or_nul (42 ∷ decimal_of n)) ≡ true = ap not (list_any_none is_slash_or_nul (42 ∷ decimal_of n) free) in
    let long = length-decimal-le 10 n (omega arith) (omega arith) (omega arith) in
    part_fits (42 ∷ decimal_of n) (are_bytes (42 ∷ decimal_of n) ranged) (omega arith) (omega arith) (and_from _ _ none refl)
