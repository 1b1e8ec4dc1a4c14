-- Parts of a finite map: the entries whose keys pass a test, when an entry is inserted or removed.
use Rattle.std.proofs.Common.{◌≡◌, Bool, true, false, cond, ◌&&◌, Option, Some, None, is_some, sym, refl, ap}
use Rattle.std.proofs.Common.{◌∙◌, subst, ⊎_elim}
use Rattle.std.specs.declared.cmp.Ordering.{Ordering}
use Rattle.std.specs.declared.cmp.Ordering.TheVariants.{Equal}
use Rattle.std.specs.Ordering.{eq_by_cmp}
use Rattle.std.specs.Cmp.{IsTotalOrder, Equal-is}
use Rattle.std.proofs.lemmas.Bool.{cases_Bool, cond-true}
use Rattle.std.specs.FinMap.{FinMap, IsAntisymmetric, get, contains_key, insert, remove, retain_keys}
use Rattle.std.specs.FinMap.{get-insert, get-remove, get-retain_keys, same_map}

-- one test after another, if the outer one decides the inner one
inside : {X : Type 0} (s t : Bool) (x y z : X) → (s ≡ true → t ≡ true)
    → cond t (cond s x y) z ≡ cond s x (cond t y z)
inside true true x y z both = refl
inside true false x y z both = absurd (subst (λ b. cond b ⊥ (Unit {0})) (both refl) tt)
inside false t x y z both = refl

outside : {X : Type 0} (s t : Bool) (x y z : X) → (s ≡ true → t ≡ false) → cond t (cond s x y) z ≡ cond t y z
outside true true x y z apart = absurd (subst (λ b. cond b (Unit {0}) ⊥) (apart refl) tt)
outside true false x y z apart = refl
outside false t x y z apart = refl

both_in : {X : Type 0} (s t : Bool) (x y : X) → cond s (cond t x y) y ≡ cond (t && s) x y
both_in true true x y = refl
both_in true false x y = refl
both_in false true x y = refl
both_in false false x y = refl

module _ {K : Type 0} {R : K → K → Ordering} (same : IsAntisymmetric R) where
  pub tied : (q k : K) → eq_by_cmp R q k ≡ true → q ≡ k
  tied q k e = same q k ((Equal-is (R q k)).0 e)

  alike : (p : K → Bool) (q x : K) → R q x ≡ Equal → p x ≡ p q
  alike p q x t = ap p (sym (same q x t))

module _ {K X : Type 0} {R : K → K → Ordering} (o : IsTotalOrder R) (same : IsAntisymmetric R) where
  -- what a part has
  pub get-part : (m : FinMap R X) (p : K → Bool) (q : K) → get (retain_keys m p) q ≡ cond (p q) (get m q) None
  get-part m p q = get-retain_keys m p q (alike same p q)

  -- the part after an entry is inserted that is of it, or that isn't
  pub part-insert : (m : FinMap R X) (p : K → Bool) (k : K) (v : X) → p k ≡ true
      → retain_keys (insert m k v) p ≡ insert (retain_keys m p) k v
  part-insert m p k v of = same_map o same _ _ (λ q.
      get-part (insert m k v) p q ∙ (ap (λ x. cond (p q) x None) (get-insert o m k v q)
      ∙ (inside (eq_by_cmp R q k) (p q) (Some v) (get m q) None (λ tie. ap p (tied same q k tie) ∙ of)
      ∙ (ap (cond (eq_by_cmp R q k) (Some v)) (sym (get-part m p q))
      ∙ sym (get-insert o (retain_keys m p) k v q)))))

  pub part-insert_other : (m : FinMap R X) (p : K → Bool) (k : K) (v : X) → p k ≡ false
      → retain_keys (insert m k v) p ≡ retain_keys m p
  part-insert_other m p k v of = same_map o same _ _ (λ q.
      get-part (insert m k v) p q ∙ (ap (λ x. cond (p q) x None) (get-insert o m k v q)
      ∙ (outside (eq_by_cmp R q k) (p q) (Some v) (get m q) None (λ tie. ap p (tied same q k tie) ∙ of)
      ∙ sym (get-part m p q))))

  -- and after an entry is removed
  pub part-remove : (m : FinMap R X) (p : K → Bool) (k : K) → p k ≡ true
      → retain_keys (remove m k) p ≡ remove (retain_keys m p) k
  part-remove m p k of = same_map o same _ _ (λ q.
      get-part (remove m k) p q ∙ (ap (λ x. cond (p q) x None) (get-remove o m k q)
      ∙ (inside (eq_by_cmp R q k) (p q) None (get m q) None (λ tie. ap p (tied same q k tie) ∙ of)
      ∙ (ap (cond (eq_by_cmp R q k) None) (sym (get-part m p q))
      ∙ sym (get-remove o (retain_keys m p) k q)))))

  pub part-remove_other : (m : FinMap R X) (p : K → Bool) (k : K) → p k ≡ false
      → retain_keys (remove m k) p ≡ retain_keys m p
  part-remove_other m p k of = same_map o same _ _ (λ q.
      get-part (remove m k) p q ∙ (ap (λ x. cond (p q) x None) (get-remove o m k q)
      ∙ (outside (eq_by_cmp R q k) (p q) None (get m q) None (λ tie. ap p (tied same q k tie) ∙ of)
      ∙ sym (get-part m p q))))

  -- a part of a part
  pub part-part : (m : FinMap R X) (p s : K → Bool)
      → retain_keys (retain_keys m p) s ≡ retain_keys m (λ k. p k && s k)
  part-part m p s = same_map o same _ _ (λ q.
      get-part (retain_keys m p) s q ∙ (ap (λ x. cond (s q) x None) (get-part m p q)
      ∙ (both_in (s q) (p q) (get m q) None ∙ sym (get-part m (λ k. p k && s k) q))))

  -- what all of the part and none of it is
  pub part_all : (m : FinMap R X) (p : K → Bool) → ((q : K) → contains_key m q ≡ true → p q ≡ true)
      → retain_keys m p ≡ m
  part_all m p all = same_map o same _ _ (λ q. get-part m p q ∙ ⊎_elim
      (λ there. cond-true (p q) (get m q) None (all q there))
      (λ absent. at_none (p q) (get m q) absent)
      (cases_Bool (contains_key m q)))
    where
      at_none : {Y : Type 0} (b : Bool) (x : Option Y) → is_some x ≡ false → cond b x None ≡ x
      at_none true x e = refl
      at_none false None e = refl
      at_none false (Some y) e = absurd (subst (λ b. cond b (Unit {0}) ⊥) e tt)

  -- an entry of the part is one of the map
  pub contains-part : (m : FinMap R X) (p : K → Bool) (q : K) → p q ≡ true
      → contains_key (retain_keys m p) q ≡ contains_key m q
  contains-part m p q of = ap is_some (get-part m p q ∙ cond-true (p q) (get m q) None of)
