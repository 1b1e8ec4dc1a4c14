-- Entries in the order of an image: of the same entries there is one list in order.
use Rattle.std.proofs.Common.{◌≡◌, ℕ, ◌+◌, suc, length, Bool, true, false, cond, List, [], ◌∷◌, map, get_or, inl, inr, refl, sym, ap, subst, ◌∙◌, arith}
use Rattle.std.specs.List.Sorted.{IsPermutation, IsSortedBy}
use Rattle.std.specs.declared.cmp.Ordering.{Ordering}
use Rattle.std.specs.declared.cmp.Ordering.TheVariants.{Less, Equal, Greater}
use Rattle.std.specs.Ordering.{nat_cmp, ordering_then, is_lt, is_eq}
use Rattle.std.specs.Cmp.{IsTotalOrder, IsStrictWeakOrder}
use Rattle.std.specs.Cmp.Lexicographic.{slice_cmp}
use Rattle.std.proofs.lemmas.Cmp.{nat_list_cmp_total, nat_cmp_total, on_total, then_total, ranked, by_ranked}
use Rattle.std.proofs.lemmas.List.{get_or-map, length-map}
use Rattle.std.proofs.lemmas.List.Sorted.{ranks_by, IsPermutation-map, sum_by-IsPermutation}
use Rattle.std.proofs.lemmas.Map.Text.{is_eq-slice_cmp}
use Rattle.plain_tree.proofs.ChildLemmas.{same_name}
use Rattle.disk_tree.specs.Entries.{Entries}
use Rattle.mount_state.proofs.OrderLemmas as orders
use Rattle.tree_image.specs.Order.{entry_cmp, put_in_order, in_order}

abbrev Entry : Type 0
Entry = List ℕ × ℕ

-- ---- the order

pub entries_total : IsTotalOrder entry_cmp
entries_total = then_total (on_total (λ (e : Entry). e.0) nat_list_cmp_total) (on_total (λ (e : Entry). e.1) nat_cmp_total)

abbrev pub below : Entry → Entry → Bool
below a b = is_lt (entry_cmp a b)

both_tie : (o p : Ordering) → is_eq (ordering_then o p) ≡ true → (is_eq o ≡ true) × (is_eq p ≡ true)
both_tie Less p bad = absurd (cc bad)
both_tie Equal p tie = (refl, tie)
both_tie Greater p bad = absurd (cc bad)

same_number : (x y : ℕ) → is_eq (nat_cmp x y) ≡ true → x ≡ y
same_number x y tie =
    by_ranked _ _ _ (nat_cmp x y) (ranked x y (nat_cmp x y) refl)
    (λ is less. let bad : is_eq Less ≡ true = sym (ap is_eq is) ∙ tie in absurd (cc bad))
    (λ is same. same)
    (λ is more. let bad : is_eq Greater ≡ true = sym (ap is_eq is) ∙ tie in absurd (cc bad))

same_entry : (a b : Entry) → is_eq (entry_cmp a b) ≡ true → a ≡ b
same_entry a b tie =
    let ties = both_tie (slice_cmp nat_cmp a.0 b.0) (nat_cmp a.1 b.1) tie in
    let names : a.0 ≡ b.0 = same_name a.0 b.0 (sym (is_eq-slice_cmp a.0 b.0) ∙ ties.0) in
    let numbers : a.1 ≡ b.1 = same_number a.1 b.1 ties.1 in
    λ i. (names i, numbers i)

-- ---- lists in order

order : IsStrictWeakOrder below
order = orders.order entry_cmp entries_total same_entry

abbrev count : Entry → Entries → ℕ
count z xs = orders.count entry_cmp entries_total same_entry z xs

abbrev Rises : Entries → Type 0
Rises xs = orders.Rises entry_cmp entries_total same_entry xs

sorted_rises : (xs : Entries) → IsSortedBy below xs → Rises xs
sorted_rises [] up = tt
sorted_rises (x ∷ []) up = ((λ z there. let none : count z [] ≡ 0 = refl in absurd (omega arith)), tt)
sorted_rises (x ∷ y ∷ ys) up =
    let rest : Rises (y ∷ ys) = sorted_rises (y ∷ ys) (λ k d low high.
    let next : suc k + 1 ≡ suc (k + 1) = omega arith in
    subst (λ (n : ℕ). below (get_or (x ∷ y ∷ ys) n d) (get_or (y ∷ ys) k d) ≡ false) next (up (suc k) d (omega arith) (omega (arith, high)))) in
    let first : below y x ≡ false = up 0 x (omega arith) (omega arith) in (
      (λ z there. elim (orders.head_or_behind entry_cmp entries_total same_entry z y ys there) [
        | inl same ↦ ap (λ w. below w x) same ∙ first
        | inr behind ↦ order.chain z y x (rest.0 z behind) first
      ]),
      rest,
    )

-- a sorted list of the entries is the entries in order
in_order_is : (xs ys : Entries) → IsPermutation xs ys → IsSortedBy below ys → ys ≡ in_order xs
in_order_is xs ys moved up =
    orders.unique entry_cmp entries_total same_entry ys (in_order xs) (sorted_rises ys up)
    (orders.order_rises entry_cmp entries_total same_entry put_in_order (λ e. refl) (λ e x es. refl) in_order refl (λ e es. refl) xs)
    (λ z. sum_by-IsPermutation (λ x. cond (is_eq (entry_cmp z x)) 1 0) xs ys moved
    ∙ sym (orders.order_count entry_cmp entries_total same_entry put_in_order (λ e. refl) (λ e x es. refl) in_order refl (λ e es. refl) z xs))

-- ---- references to entries

module _ {X : Type 0} (key : X → Entry) where
  -- the order of what they refer to
  pub key_order : IsStrictWeakOrder (λ a b. below (key a) (key b))
  key_order = ranks_by entries_total key

  sorted_keys : (ys : List X) → IsSortedBy (λ a b. below (key a) (key b)) ys → IsSortedBy below (map key ys)
  sorted_keys [] up k d low high = absurd (omega arith)
  sorted_keys (y ∷ ys) up k d low high =
      let size : length (map key (y ∷ ys)) ≡ length (y ∷ ys) = length-map (y ∷ ys) key in
      let next : get_or (map key (y ∷ ys)) (k + 1) d ≡ key (get_or (y ∷ ys) (k + 1) y) = get_or-map key (y ∷ ys) (k + 1) y d (omega arith) in
      let here : get_or (map key (y ∷ ys)) k d ≡ key (get_or (y ∷ ys) k y) = get_or-map key (y ∷ ys) k y d (omega arith) in
      (λ i. below (next i) (here i)) ∙ up k y low (omega arith)

  pub keys_in_order : (xs ys : List X) → IsPermutation xs ys → IsSortedBy (λ a b. below (key a) (key b)) ys → map key ys ≡ in_order (map key xs)
  keys_in_order xs ys moved up = in_order_is (map key xs) (map key ys) (IsPermutation-map key xs ys moved) (sorted_keys ys up)
