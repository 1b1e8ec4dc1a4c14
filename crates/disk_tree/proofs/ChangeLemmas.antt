-- Two changes of a map, at one number and at two.
use Rattle.std.proofs.Common.{◌≡◌, ◌≢◌, ℕ, Option, Some, None, refl, sym, ap, ◌∙◌}
use Rattle.number_map.specs.Numbered.{NumberedValues, get, insert, changed}
use Rattle.number_map.proofs.NumberedLemmas.{changed_Some, changed_None, changed_other, changed_inserted, changed_through, insert_same}

module _ {V : Type 0} (m : NumberedValues V) (k : ℕ) where
  fixed_by_case : (f : V → V) (o : Option V) → get m k ≡ o → ((v : V) → o ≡ Some v → f v ≡ v) → changed m k f ≡ m
  fixed_by_case f None is same = changed_None m k f is
  fixed_by_case f (Some v) is same = changed_Some m k f v is ∙ ap (insert m k) (same v refl) ∙ insert_same m k v is

  -- a change that leaves the value that is there
  pub changed_fixed : (f : V → V) → ((v : V) → get m k ≡ Some v → f v ≡ v) → changed m k f ≡ m
  changed_fixed f same = fixed_by_case f (get m k) refl same

  alike_by_case : (f g : V → V) (o : Option V) → get m k ≡ o → ((v : V) → o ≡ Some v → f v ≡ g v) → changed m k f ≡ changed m k g
  alike_by_case f g None is same = changed_None m k f is ∙ sym (changed_None m k g is)
  alike_by_case f g (Some v) is same = changed_Some m k f v is ∙ ap (insert m k) (same v refl) ∙ sym (changed_Some m k g v is)

  -- two changes that give the same result for the value that is there
  pub changed_alike : (f g : V → V) → ((v : V) → get m k ≡ Some v → f v ≡ g v) → changed m k f ≡ changed m k g
  changed_alike f g same = alike_by_case f g (get m k) refl same

  twice_by_case : (f g : V → V) (o : Option V) → get m k ≡ o → changed (changed m k f) k g ≡ changed m k (λ v. g (f v))
  twice_by_case f g None is = ap (λ x. changed x k g) (changed_None m k f is) ∙ changed_None m k g is ∙ sym (changed_None m k (λ v. g (f v)) is)
  twice_by_case f g (Some v) is = ap (λ x. changed x k g) (changed_Some m k f v is) ∙ changed_inserted m k (f v) g ∙ sym (changed_Some m k (λ v. g (f v)) v is)

  -- one change after another at the same number
  pub changed_twice : (f g : V → V) → changed (changed m k f) k g ≡ changed m k (λ v. g (f v))
  changed_twice f g = twice_by_case f g (get m k) refl

  apart_by_case : (x : ℕ) (f g : V → V) (o : Option V) → get m x ≡ o → (k ≢ x) → changed (changed m x g) k f ≡ changed (changed m k f) x g
  apart_by_case x f g None is apart =
      ap (λ y. changed y k f) (changed_None m x g is)
      ∙ sym (changed_None (changed m k f) x g (changed_other m k f x (λ e. apart (sym e)) ∙ is))
  apart_by_case x f g (Some v) is apart =
      ap (λ y. changed y k f) (changed_Some m x g v is)
      ∙ changed_through m k x (g v) f apart
      ∙ sym (changed_Some (changed m k f) x g v (changed_other m k f x (λ e. apart (sym e)) ∙ is))

  -- changes at two numbers, in either order
  pub changed_apart : (x : ℕ) (f g : V → V) → (k ≢ x) → changed (changed m x g) k f ≡ changed (changed m k f) x g
  changed_apart x f g apart = apart_by_case x f g (get m x) refl apart

-- a value that is put, with a change of its own before or after one elsewhere
pub changed_first : {V : Type 0} (m : NumberedValues V) (k x : ℕ) (f g : V → V) (v : V) → (k ≢ x) → changed (insert m x (g v)) k f ≡ changed (changed (insert m x v) k f) x g
changed_first m k x f g v apart =
    ap (λ y. changed y k f) (sym (changed_inserted m x v g))
    ∙ changed_apart (insert m x v) k x f g apart
