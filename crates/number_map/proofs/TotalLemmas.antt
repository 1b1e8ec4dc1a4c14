-- A sum over the values of a map, after each change.
use Rattle.std.proofs.Common.{◌≡◌, ℕ, ◌+◌, ◌<◌, Bool, true, false, cond, ◌&&◌, T, Option, Some, None, List, [], ◌∷◌, inl, inr, refl, sym, ap, ◌∙◌, arith, Less, Equal, Greater, Ordering}
use Rattle.std.proofs.lemmas.Bool.{cases_eq, and_parts}
use Rattle.std.proofs.lemmas.List.{nil_from_length}
use Rattle.std.proofs.lemmas.List.Sums.{sum_by-cons}
use Rattle.std.specs.List.{sum_by}
use Rattle.std.specs.Ordering.{nat_cmp, is_lt, is_eq}
use Rattle.std.specs.Cmp.{nat_cmp_total, nat_cmp_is, ranked}
use Rattle.std.specs.FinMap as fin
use Rattle.std.specs.FinMap.Entries.{by_order, put, find, below_all, is_sorted}
use Rattle.number_map.specs.Numbered.{NumberedValues, get, insert, remove, changed, entries, empty}
use Rattle.number_map.proofs.NumberedLemmas.{same_numbered, insert_here, insert_other, remove_here, remove_other, changed_Some, changed_None}

from_T : (b : Bool) → T b → b ≡ true
from_T true t = refl
from_T false t = absurd t

less_of : (o : Ordering) → is_lt o ≡ true → o ≡ Less
less_of Less is = refl
less_of Equal is = absurd (cc)
less_of Greater is = absurd (cc)

lower : (x y z : ℕ) → nat_cmp x y ≡ Less → is_lt (nat_cmp y z) ≡ true → is_lt (nat_cmp x z) ≡ true
lower x y z first second =
    let one : x < y = ranked x y Less (sym first) in
    let two : y < z = ranked y z Less (sym (less_of (nat_cmp y z) second)) in
    let both : x < z = omega arith in
    ap is_lt (sym (nat_cmp_is x z Less both))

module _ {V : Type 0} (count : V → ℕ) where
  abbrev value : ℕ × V → ℕ
  value e = count e.1

  -- the count of a number's value; 0 for a number without one
  abbrev pub counted : Option V → ℕ
  counted None = 0
  counted (Some v) = count v

  abbrev pub total : NumberedValues V → ℕ
  total m = sum_by value (entries m)

  below_lower : (x y : ℕ) (es : List (ℕ × V)) → nat_cmp x y ≡ Less → below_all nat_cmp y es ≡ true → below_all nat_cmp x es ≡ true
  below_lower x y [] less below = refl
  below_lower x y (e ∷ es) less below =
      let parts : (is_lt (nat_cmp y e.0) ≡ true) × (below_all nat_cmp y es ≡ true) = and_parts (is_lt (nat_cmp y e.0)) (below_all nat_cmp y es) below in
      ap (λ b. b && below_all nat_cmp x es) (lower x y e.0 less parts.0) ∙ below_lower x y es less parts.1

  find_lower : (x : ℕ) (es : List (ℕ × V)) → below_all nat_cmp x es ≡ true → find nat_cmp x es ≡ None
  find_lower x [] below = refl
  find_lower x (e ∷ es) below =
      let parts : (is_lt (nat_cmp x e.0) ≡ true) × (below_all nat_cmp x es ≡ true) = and_parts (is_lt (nat_cmp x e.0)) (below_all nat_cmp x es) below in
      ap (λ o. cond (is_eq o) (Some e.1) (find nat_cmp x es)) (less_of (nat_cmp x e.0) parts.0) ∙ find_lower x es parts.1

  sum_put : (k : ℕ) (v : V) (es : List (ℕ × V)) → is_sorted nat_cmp es ≡ true → sum_by value (put nat_cmp k v es) + counted (find nat_cmp k es) ≡ sum_by value es + count v
  sum_put k v [] sorted = omega (arith, sum_by-cons value (k, v) [])
  sum_put k v (e ∷ es) sorted =
      let parts : (below_all nat_cmp e.0 es ≡ true) × (is_sorted nat_cmp es ≡ true) = and_parts (below_all nat_cmp e.0 es) (is_sorted nat_cmp es) sorted in
      let rest = sum_put k v es parts.1 in
      elim (nat_cmp k e.0) as (λ o. nat_cmp k e.0 ≡ o → sum_by value (by_order o ((k, v) ∷ e ∷ es) ((e.0, v) ∷ es) (e ∷ put nat_cmp k v es)) + counted (cond (is_eq o) (Some e.1) (find nat_cmp k es)) ≡ sum_by value (e ∷ es) + count v) [
        | Less ↦ λ p.
            let none : counted (find nat_cmp k es) ≡ 0 = ap counted (find_lower k es (below_lower k e.0 es p parts.0)) in
            omega (arith, sum_by-cons value (k, v) (e ∷ es))
        | Equal ↦ λ p. omega (arith, sum_by-cons value (e.0, v) es, sum_by-cons value e es)
        | Greater ↦ λ p. omega (arith, sum_by-cons value e (put nat_cmp k v es), sum_by-cons value e es)
      ] refl

  pub total_insert : (m : NumberedValues V) (k : ℕ) (v : V) → total (insert m k v) + counted (get m k) ≡ total m + count v
  total_insert m k v =
      (λ i. sum_by value (fin.entries-insert nat_cmp_total m k v i) + counted (fin.get-entries m k i))
      ∙ sum_put k v (entries m) (from_T (is_sorted nat_cmp (entries m)) (fin.entries_sorted m))

  pub total_empty : total empty ≡ 0
  total_empty =
      ap (sum_by value) (nil_from_length (entries (empty {X = V} {R = nat_cmp})) (sym (fin.len-entries (empty {X = V} {R = nat_cmp})) ∙ fin.len-empty nat_cmp V))

  -- a value that was not there
  pub total_added : (m : NumberedValues V) (k : ℕ) (v : V) → get m k ≡ None → total (insert m k v) ≡ total m + count v
  total_added m k v lacks = let none : counted (get m k) ≡ 0 = ap counted lacks in omega (arith, total_insert m k v)

  pub total_removed : (m : NumberedValues V) (k : ℕ) (v : V) → get m k ≡ Some v → total (remove m k) + count v ≡ total m
  total_removed m k v has =
      let again : insert (remove m k) k v ≡ m
      = same_numbered _ _ (λ q. elim (cases_eq q k) [
        | inl is ↦ ap (get (insert (remove m k) k v)) is ∙ insert_here (remove m k) k v ∙ sym has ∙ ap (get m) (sym is)
        | inr differ ↦ insert_other (remove m k) k v q differ ∙ remove_other m k q differ
      ]) in
      sym (total_added (remove m k) k v (remove_here m k)) ∙ ap total again

  -- a value that was there
  pub total_changed_to : (m : NumberedValues V) (k : ℕ) (f : V → V) (v : V) → get m k ≡ Some v → total (changed m k f) + count v ≡ total m + count (f v)
  total_changed_to m k f v has =
      let was : counted (get m k) ≡ count v = ap counted has in
      let now : total (changed m k f) ≡ total (insert m k (f v)) = ap total (changed_Some m k f v has) in
      omega (arith, total_insert m k (f v))

  changed_by_case : (m : NumberedValues V) (k : ℕ) (f : V → V) (o : Option V) → get m k ≡ o → ((v : V) → count (f v) ≡ count v) → total (changed m k f) ≡ total m
  changed_by_case m k f None is same = ap total (changed_None m k f is)
  changed_by_case m k f (Some v) is same = omega (arith, total_changed_to m k f v is, same v)

  -- a change that doesn't change the value's count
  pub total_changed : (m : NumberedValues V) (k : ℕ) (f : V → V) → ((v : V) → count (f v) ≡ count v) → total (changed m k f) ≡ total m
  total_changed m k f same = changed_by_case m k f (get m k) refl same
