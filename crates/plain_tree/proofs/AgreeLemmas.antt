-- Two maps still agree after the same change, also if what the one has depends on the number.
use Rattle.std.proofs.Common.{◌≡◌, ℕ, Option, Some, None, option_map, inl, inr, refl, sym, ap, ◌∙◌}
use Rattle.std.proofs.lemmas.Bool.{cases_eq}
use Rattle.number_map.specs.Numbered.{NumberedValues, get, insert, remove, changed}
use Rattle.number_map.proofs.NumberedLemmas.{insert_here, insert_other, remove_here, remove_other, changed_here, changed_other}
use Rattle.plain_tree.specs.Facts.{AgreesBy}

module _ {V W : Type 0} (f : ℕ → V → W) (plain : NumberedValues V) (stored : NumberedValues W) (agree : AgreesBy f plain stored) where
  pub agree_inserted : (k : ℕ) (v : V) (w : W) → w ≡ f k v → AgreesBy f (insert plain k v) (insert stored k w)
  agree_inserted k v w is q = elim (cases_eq q k) [
    | inl same ↦
        ap (get (insert stored k w)) same ∙ insert_here stored k w ∙ ap (λ x. Some x) is
        ∙ ap (option_map (f k)) (sym (insert_here plain k v))
        ∙ ap (λ y. option_map (f y) (get (insert plain k v) y)) (sym same)
    | inr differ ↦ insert_other stored k w q differ ∙ agree q ∙ ap (option_map (f q)) (sym (insert_other plain k v q differ))
  ]

  twice : (k : ℕ) (g : V → V) (h : W → W) (o : Option V) → ((v : V) → o ≡ Some v → h (f k v) ≡ f k (g v)) → option_map h (option_map (f k) o) ≡ option_map (f k) (option_map g o)
  twice k g h None alike = refl
  twice k g h (Some v) alike = ap (λ x. Some x) (alike v refl)

  pub agree_edited : (k : ℕ) (g : V → V) (h : W → W) → ((v : V) → get plain k ≡ Some v → h (f k v) ≡ f k (g v)) → AgreesBy f (changed plain k g) (changed stored k h)
  agree_edited k g h alike q = elim (cases_eq q k) [
    | inl same ↦
        ap (get (changed stored k h)) same ∙ changed_here stored k h ∙ ap (option_map h) (agree k)
        ∙ twice k g h (get plain k) alike
        ∙ ap (option_map (f k)) (sym (changed_here plain k g))
        ∙ ap (λ y. option_map (f y) (get (changed plain k g) y)) (sym same)
    | inr differ ↦ changed_other stored k h q differ ∙ agree q ∙ ap (option_map (f q)) (sym (changed_other plain k g q differ))
  ]

  pub agree_removed : (k : ℕ) → AgreesBy f (remove plain k) (remove stored k)
  agree_removed k q = elim (cases_eq q k) [
    | inl same ↦
        ap (get (remove stored k)) same ∙ remove_here stored k
        ∙ ap (option_map (f k)) (sym (remove_here plain k))
        ∙ ap (λ y. option_map (f y) (get (remove plain k) y)) (sym same)
    | inr differ ↦ remove_other stored k q differ ∙ agree q ∙ ap (option_map (f q)) (sym (remove_other plain k q differ))
  ]
