-- The values after words: each is read from the text that spells it, and from no other text.
use Rattle.std.proofs.Common.{◌≡◌, ℕ, ◌<◌, ◌==◌, true, not, List, ◌++◌, Option, Some, None, refl, ap, ◌∙◌, arith}
use Rattle.std.proofs.lemmas.Bool.Decides.{nat_tests}
use Rattle.std.specs.Option.{option_and_then}
use Rattle.text_words.specs.Words.{rest_after}
use Rattle.text_words.proofs.PieceLemmas.{is_free_of}
use Rattle.text_words.proofs.WordLemmas.{behind_again, behind_found, implied}
use Rattle.short_bytes.specs.Label.{IsLabel, is_label_character}
use Rattle.short_bytes.proofs.LabelLemmas.{IsLabel-bounds}
use Rattle.protector_meta.specs.LineValues.{word_value}

-- a value that was read on
pub went_on : {A B : Type 0} (f : A → Option B) (o : Option A) (y : B) → option_and_then f o ≡ Some y → (x : A) × (o ≡ Some x) × (f x ≡ Some y)
went_on f None y h = absurd (cc h)
went_on f (Some x) y h = (x, refl, h)

-- ---- words

pub word_value_again : {A : Type 0} (word : List ℕ) (value : List ℕ → Option A) (rest : List ℕ) (x : A) → value rest ≡ Some x
    → word_value word value (word ++ rest) ≡ Some x
word_value_again word value rest x h = ap (option_and_then value) (behind_again word rest) ∙ h

pub word_value_found : {A : Type 0} (word : List ℕ) (value : List ℕ → Option A) (text : List ℕ) (x : A) → word_value word value text ≡ Some x
    → (rest : List ℕ) × (text ≡ word ++ rest) × (value rest ≡ Some x)
word_value_found word value text x h =
    let on = went_on value (rest_after word text) x h in
    (on.0, behind_found word text on.0 on.1, on.2)

-- ---- labels

-- a byte that no label contains
pub label_is_free : (c : ℕ) (xs : List ℕ) → c < 45 → IsLabel xs → is_free_of c xs ≡ true
label_is_free c xs low is = implied is_label_character (λ b. not (b == c)) (λ x h. above x h) xs (IsLabel-bounds xs is).2
  where
    above : (x : ℕ) → is_label_character x ≡ true → not (x == c) ≡ true
    above x h = grind (arith, nat_tests)
