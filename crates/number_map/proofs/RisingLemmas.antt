-- The values in a list of entries by rising number, after a value was put or removed.
use Rattle.std.proofs.Common.{◌≡◌, ◌≢◌, ℕ, ◌+◌, cond, List, [], ◌∷◌, length, Some, None, true, false, inl, inr, refl, sym, ap, ◌∙◌, arith, Less, Equal, Greater}
use Rattle.std.proofs.lemmas.Bool.{cases_eq}
use Rattle.std.proofs.lemmas.Map.Keys.{sorted_head, sorted_tail}
use Rattle.std.specs.Map.{keys_of, remove_entry}
use Rattle.std.specs.BTreeMap.{insert_entry}
use Rattle.std.specs.Ordering.{nat_cmp, eq_by_cmp, is_eq, match_ordering}
use Rattle.std.specs.Cmp.{ranked}
use Rattle.number_map.specs.Rising.{value_at}
use Rattle.number_map.proofs.NumberTests.{tied, untied}
use Rattle.number_map.proofs.SlotLemmas.{IsBelow}
use Rattle.number_map.proofs.RowLemmas.{IsSorted}

same_equal : (a b : ℕ) → nat_cmp a b ≡ Equal → a ≡ b
same_equal a b is = ranked a b Equal (sym is)

module _ {V : Type 0} where
  lower_absent : (number : ℕ) (es : List (ℕ × V)) → IsBelow number (keys_of es) → value_at es number ≡ None
  lower_absent number [] below = refl
  lower_absent number (e ∷ es) below = ap (λ b. cond b (Some e.1) (value_at es number)) (ap is_eq below.0) ∙ lower_absent number es below.1

  pub gone_here : (number : ℕ) (es : List (ℕ × V)) → IsSorted (keys_of es) → value_at (remove_entry (eq_by_cmp nat_cmp number) es) number ≡ None
  gone_here number [] sorted = refl
  gone_here number (e ∷ es) sorted =
      elim (cases_eq number e.0) [
        | inl same ↦
            ap (λ b. value_at (cond b es (e ∷ remove_entry (eq_by_cmp nat_cmp number) es)) number) (tied number e.0 same)
            ∙ ap (value_at es) same
            ∙ lower_absent e.0 es (sorted_head nat_cmp e.0 (keys_of es) sorted)
        | inr differ ↦
            ap (λ b. value_at (cond b es (e ∷ remove_entry (eq_by_cmp nat_cmp number) es)) number) (untied number e.0 differ)
            ∙ ap (λ b. cond b (Some e.1) (value_at (remove_entry (eq_by_cmp nat_cmp number) es) number)) (untied number e.0 differ)
            ∙ gone_here number es (sorted_tail nat_cmp e.0 (keys_of es) sorted)
      ]

  pub gone_other : (number other : ℕ) (es : List (ℕ × V)) → (other ≢ number) → value_at (remove_entry (eq_by_cmp nat_cmp number) es) other ≡ value_at es other
  gone_other number other [] apart = refl
  gone_other number other (e ∷ es) apart =
      elim (cases_eq number e.0) [
        | inl same ↦
            ap (λ b. value_at (cond b es (e ∷ remove_entry (eq_by_cmp nat_cmp number) es)) other) (tied number e.0 same)
            ∙ sym (ap (λ b. cond b (Some e.1) (value_at es other)) (untied other e.0 (λ is. apart (is ∙ sym same))))
        | inr differ ↦
            ap (λ b. value_at (cond b es (e ∷ remove_entry (eq_by_cmp nat_cmp number) es)) other) (untied number e.0 differ)
            ∙ ap (cond (eq_by_cmp nat_cmp other e.0) (Some e.1)) (gone_other number other es apart)
      ]

  pub length_gone : (number : ℕ) (v : V) (es : List (ℕ × V)) → value_at es number ≡ Some v → length (remove_entry (eq_by_cmp nat_cmp number) es) + 1 ≡ length es
  length_gone number v [] found = absurd (cc)
  length_gone number v (e ∷ es) found =
      elim (eq_by_cmp nat_cmp number e.0) as (λ b. cond b (Some e.1) (value_at es number) ≡ Some v → length (cond b es (e ∷ remove_entry (eq_by_cmp nat_cmp number) es)) + 1 ≡ length (e ∷ es)) [
        | true ↦ λ h. omega arith
        | false ↦ λ h. let rest = length_gone number v es h in omega arith
      ] found

  pub put_found : (number : ℕ) (v : V) (es : List (ℕ × V)) → value_at (insert_entry nat_cmp es number v) number ≡ Some v
  put_found number v [] = ap (λ b. cond b (Some v) None) (tied number number refl)
  put_found number v (e ∷ es) =
      elim (nat_cmp number e.0) as (λ o. nat_cmp number e.0 ≡ o → value_at (match_ordering o ((number, v) ∷ e ∷ es) ((e.0, v) ∷ es) (e ∷ insert_entry nat_cmp es number v)) number ≡ Some v) [
        | Less ↦ λ p. ap (λ b. cond b (Some v) (value_at (e ∷ es) number)) (tied number number refl)
        | Equal ↦ λ p. ap (λ b. cond b (Some v) (value_at es number)) (tied number e.0 (same_equal number e.0 p))
        | Greater ↦ λ p. ap (λ b. cond b (Some e.1) (value_at (insert_entry nat_cmp es number v) number)) (ap is_eq p) ∙ put_found number v es
      ] refl

  pub put_other : (number other : ℕ) (v : V) (es : List (ℕ × V)) → (other ≢ number) → value_at (insert_entry nat_cmp es number v) other ≡ value_at es other
  put_other number other v [] apart = ap (λ b. cond b (Some v) None) (untied other number apart)
  put_other number other v (e ∷ es) apart =
      elim (nat_cmp number e.0) as (λ o. nat_cmp number e.0 ≡ o → value_at (match_ordering o ((number, v) ∷ e ∷ es) ((e.0, v) ∷ es) (e ∷ insert_entry nat_cmp es number v)) other ≡ value_at (e ∷ es) other) [
        | Less ↦ λ p. ap (λ b. cond b (Some v) (value_at (e ∷ es) other)) (untied other number apart)
        | Equal ↦ λ p.
            let differ : other ≢ e.0 = λ is. apart (is ∙ sym (same_equal number e.0 p)) in
            ap (λ b. cond b (Some v) (value_at es other)) (untied other e.0 differ)
            ∙ sym (ap (λ b. cond b (Some e.1) (value_at es other)) (untied other e.0 differ))
        | Greater ↦ λ p. ap (cond (eq_by_cmp nat_cmp other e.0) (Some e.1)) (put_other number other v es apart)
      ] refl

  pub length_put : (number : ℕ) (v : V) (es : List (ℕ × V)) → value_at es number ≡ None → length (insert_entry nat_cmp es number v) ≡ length es + 1
  length_put number v [] absent = refl
  length_put number v (e ∷ es) absent =
      elim (nat_cmp number e.0) as (λ o. nat_cmp number e.0 ≡ o → cond (is_eq o) (Some e.1) (value_at es number) ≡ None → length (match_ordering o ((number, v) ∷ e ∷ es) ((e.0, v) ∷ es) (e ∷ insert_entry nat_cmp es number v)) ≡ length (e ∷ es) + 1) [
        | Less ↦ λ p h. omega arith
        | Equal ↦ λ p h. absurd (cc)
        | Greater ↦ λ p h. let rest = length_put number v es h in omega arith
      ] refl absent
