-- The words of a line from the first on.
use Rattle.std.proofs.Common.{◌≡◌, ℕ, ◌<◌, ◌≤◌, ◌+◌, ◌-◌, List, [], length, take, drop, Option, Some, None, refl, sym, ap, ◌∙◌, arith}
use Rattle.std.specs.Prelude.{slice_get}
use Rattle.std.specs.List.{position_or_len}
use Rattle.std.specs.Option.{option_map_or}
use Rattle.std.proofs.lemmas.List.Splits.{length-slice_split}
use Rattle.text_words.specs.Words.{words_of, is_space}
use Rattle.text_words.proofs.LineLemmas.{pieces_first, pieces_none}

-- a word before a space, and those after it
pub first_of : (text : List ℕ) (now : List (List ℕ)) (end : ℕ) → now ≡ words_of text → end ≡ position_or_len is_space text → end < length text
    → (Some (take end text) ≡ slice_get now 0) × (words_of (take (length text - (end + 1)) (drop (end + 1) text)) ≡ drop 1 now)
first_of text now end same place inside =
    let cut = same ∙ pieces_first is_space text end place inside in
    (rw cut refl, rw cut refl)

-- the last word
pub last_of : (text : List ℕ) (now : List (List ℕ)) (end : ℕ) → now ≡ words_of text → end ≡ position_or_len is_space text → length text ≤ end
    → (Some text ≡ slice_get now 0) × ([] ≡ drop 1 now)
last_of text now end same place whole =
    let cut = same ∙ pieces_none is_space text end place whole in
    (rw cut refl, rw cut refl)

-- no text, and no word
pub none_left : {X : Type 0} (f : X → List ℕ) (rest : Option X) (now : List (List ℕ)) → option_map_or (λ x. words_of (f x)) rest [] ≡ now
    → rest ≡ None → now ≡ []
none_left f rest now same none = sym same ∙ ap (λ r. option_map_or (λ x. words_of (f x)) r []) none

-- a text has a word
pub some_left : {X : Type 0} (f : X → List ℕ) (rest : Option X) (text : X) (now : List (List ℕ)) → option_map_or (λ x. words_of (f x)) rest [] ≡ now
    → rest ≡ Some text → now ≡ [] → ⊥
some_left f rest text now same some empty =
    let words : words_of (f text) ≡ [] = sym (ap (λ r. option_map_or (λ x. words_of (f x)) r []) some) ∙ same ∙ empty in
    omega (arith, length-slice_split is_space (f text), ap length words)
