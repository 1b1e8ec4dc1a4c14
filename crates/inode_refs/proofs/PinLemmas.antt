-- A node with an entry among the pins has at least one, and a pin that is removed again leaves no trace.
use Rattle.std.proofs.Common.{◌≡◌, ℕ, ◌+◌, ◌<◌, false, true, eqb, List, [], Option, Some, None, unwrap_or, refl, sym, ap, ◌∙◌, subst, ⊎_elim, arith}
use Rattle.std.specs.Ordering.{nat_cmp, eq_by_cmp}
use Rattle.std.specs.Cmp.{nat_cmp_total}
use Rattle.std.specs.FinMap as map
use Rattle.std.specs.FinMap.{nat_cmp-IsAntisymmetric, get-insert, get-remove, same_map}
use Rattle.std.proofs.lemmas.Bool.{cases_Bool, cond-true, cond-false, true≢false, eqb-true, eq-eqb}
use Rattle.key_counts.proofs.CountLemmas.{tied}
use Rattle.key_counts.proofs.ShownLemmas.{get-shown}
use Rattle.inode_refs.specs.CacheMaps.{PinMap, pins_at, with_pins}
use Rattle.inode_refs.specs.CacheRules.{pins_in}
use Rattle.inode_refs.specs.Users.{HasPins}

pub HasPins-none : (pins : List (ℕ × ℕ)) → pins ≡ [] → HasPins (pins_in pins)
HasPins-none pins none = subst (λ (es : List (ℕ × ℕ)). HasPins (pins_in es)) (sym none)
    (λ node count is. let bad : None ≡ Some count = sym (get-shown nat_cmp_total (λ (n : ℕ). n) [] node) ∙ is in absurd (cc))

module _ (pins : PinMap) (node : ℕ) where
  here : (k : ℕ) → eq_by_cmp nat_cmp k node ≡ true → k ≡ node
  here k tie = tied nat_cmp-IsAntisymmetric k node tie

  -- with another number of pins on the node
  pub HasPins-with_pins : HasPins pins → (count : ℕ) → HasPins (with_pins pins node count)
  HasPins-with_pins some count = ⊎_elim
      (λ none. subst HasPins (sym (cond-true (eqb count 0) (map.remove pins node) (map.insert pins node count) none)) removed)
      (λ more. subst HasPins (sym (cond-false (eqb count 0) (map.remove pins node) (map.insert pins node count) more)) (inserted more))
      (cases_Bool (eqb count 0))
    where
      removed : HasPins (map.remove pins node)
      removed k n is = ⊎_elim
          (λ tie. let none : None ≡ Some n = sym (cond-true (eq_by_cmp nat_cmp k node) None (map.get pins k) tie) ∙ (sym (get-remove nat_cmp_total pins node k) ∙ is) in absurd (cc))
          (λ apart. some k n (sym (cond-false (eq_by_cmp nat_cmp k node) None (map.get pins k) apart) ∙ (sym (get-remove nat_cmp_total pins node k) ∙ is)))
          (cases_Bool (eq_by_cmp nat_cmp k node))

      inserted : eqb count 0 ≡ false → HasPins (map.insert pins node count)
      inserted more k n is = ⊎_elim
          (λ tie. let same : Some count ≡ Some n = sym (cond-true (eq_by_cmp nat_cmp k node) (Some count) (map.get pins k) tie) ∙ (sym (get-insert nat_cmp_total pins node count k) ∙ is) in
          let is : count ≡ n = cc in
          subst (λ x. 0 < x) is (positive count more))
          (λ apart. some k n (sym (cond-false (eq_by_cmp nat_cmp k node) (Some count) (map.get pins k) apart) ∙ (sym (get-insert nat_cmp_total pins node count k) ∙ is)))
          (cases_Bool (eq_by_cmp nat_cmp k node))
        where
          positive : (x : ℕ) → eqb x 0 ≡ false → 0 < x
          positive x more = omega (arith, λ (none : x ≡ 0). true≢false (sym (eq-eqb x 0 none) ∙ more))

  -- a pin that is removed again
  pub pins_back : HasPins pins → with_pins (with_pins pins node (pins_at pins node + 1)) node (pins_at pins node) ≡ pins
  pins_back some =
      ap (λ p. with_pins p node (pins_at pins node)) (cond-false (eqb (pins_at pins node + 1) 0) (map.remove pins node) (map.insert pins node (pins_at pins node + 1)) one)
      ∙ same_map nat_cmp_total nat_cmp-IsAntisymmetric _ _ (λ q. at q (map.get pins node) refl)
    where
      one : eqb (pins_at pins node + 1) 0 ≡ false
      one = ⊎_elim (λ none. let zero : pins_at pins node + 1 ≡ 0 = eqb-true (pins_at pins node + 1) 0 none in absurd (omega arith)) (λ more. more) (cases_Bool (eqb (pins_at pins node + 1) 0))

      other : (q : ℕ) (v : ℕ) → eq_by_cmp nat_cmp q node ≡ false → map.get (map.insert pins node (pins_at pins node + 1)) q ≡ map.get pins q
      other q v apart = get-insert nat_cmp_total pins node (pins_at pins node + 1) q ∙ cond-false (eq_by_cmp nat_cmp q node) _ (map.get pins q) apart

      at : (q : ℕ) (o : Option ℕ) → map.get pins node ≡ o → map.get (with_pins (map.insert pins node (pins_at pins node + 1)) node (unwrap_or o 0)) q ≡ map.get pins q
      at q None is = get-remove nat_cmp_total (map.insert pins node (pins_at pins node + 1)) node q ∙ ⊎_elim
          (λ tie. cond-true (eq_by_cmp nat_cmp q node) None (map.get (map.insert pins node (pins_at pins node + 1)) q) tie ∙ sym (ap (map.get pins) (here q tie) ∙ is))
          (λ apart. cond-false (eq_by_cmp nat_cmp q node) None (map.get (map.insert pins node (pins_at pins node + 1)) q) apart ∙ other q 0 apart)
          (cases_Bool (eq_by_cmp nat_cmp q node))
      at q (Some n) is =
          ap (λ p. map.get p q) (cond-false (eqb n 0) (map.remove (map.insert pins node (pins_at pins node + 1)) node) (map.insert (map.insert pins node (pins_at pins node + 1)) node n) (more n is))
          ∙ (get-insert nat_cmp_total (map.insert pins node (pins_at pins node + 1)) node n q ∙ ⊎_elim
          (λ tie. cond-true (eq_by_cmp nat_cmp q node) (Some n) (map.get (map.insert pins node (pins_at pins node + 1)) q) tie ∙ sym (ap (map.get pins) (here q tie) ∙ is))
          (λ apart. cond-false (eq_by_cmp nat_cmp q node) (Some n) (map.get (map.insert pins node (pins_at pins node + 1)) q) apart ∙ other q n apart)
          (cases_Bool (eq_by_cmp nat_cmp q node)))
        where
          more : (n : ℕ) → map.get pins node ≡ Some n → eqb n 0 ≡ false
          more n is = let positive = some node n is in ⊎_elim
              (λ none. let zero : n ≡ 0 = eqb-true n 0 none in absurd (omega arith)) (λ more. more) (cases_Bool (eqb n 0))
