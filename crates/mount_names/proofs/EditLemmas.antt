-- What is read of a map by number is the same after each edit that doesn't change it.
use Rattle.std.proofs.Common.{◌≡◌, ◌≢◌, ℕ, Option, Some, None, option_map, inl, inr, refl, sym, ap, ◌∙◌}
use Rattle.std.proofs.lemmas.Bool.{cases_eq}
use Rattle.number_map.specs.Numbered.{NumberedValues, get, insert, remove, changed}
use Rattle.number_map.proofs.NumberedLemmas.{insert_other, remove_other, changed_here, changed_other}

module _ {V A : Type 0} (read : Option V → A) (nodes : NumberedValues V) where
  by_case : (f : V → V) (o : Option V) → ((v : V) → read (Some (f v)) ≡ read (Some v)) → read (option_map f o) ≡ read o
  by_case f None same = refl
  by_case f (Some v) same = same v

  pub read_changed : (k : ℕ) (f : V → V) → ((v : V) → read (Some (f v)) ≡ read (Some v)) → (x : ℕ) → read (get (changed nodes k f) x) ≡ read (get nodes x)
  read_changed k f same x = elim (cases_eq x k) [
    | inl is ↦
        ap (λ y. read (get (changed nodes k f) y)) is ∙ ap read (changed_here nodes k f)
        ∙ by_case f (get nodes k) same ∙ ap (λ y. read (get nodes y)) (sym is)
    | inr differ ↦ ap read (changed_other nodes k f x differ)
  ]

  pub read_inserted : (k : ℕ) (v : V) (x : ℕ) → (x ≢ k) → read (get (insert nodes k v) x) ≡ read (get nodes x)
  read_inserted k v x differ = ap read (insert_other nodes k v x differ)

  pub read_removed : (k x : ℕ) → (x ≢ k) → read (get (remove nodes k) x) ≡ read (get nodes x)
  read_removed k x differ = ap read (remove_other nodes k x differ)
