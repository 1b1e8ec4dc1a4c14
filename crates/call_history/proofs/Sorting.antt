-- Entries sorted by place, with those of one place in their order, are the entries in order of place.
use Rattle.std.proofs.Common.{◌≡◌, ℕ, suc, zero, nat_cmp, filter, ◌<◌, ◌≤◌, Bool, true, false, cond, not, ◌&&◌, leb, eqb, [], ◌∷◌, length, drop, get_or, sym, refl, ap, ap₂, ◌∙◌, subst, ⊎_elim, arith}
use Rattle.std.specs.Prelude.{slice_index_or}
use Rattle.std.specs.Ordering.{is_lt}
use Rattle.std.specs.List.Sorted.{IsNonDecreasingBy, IsStableByKey, ties}
use Rattle.std.proofs.lemmas.Bool.{cases_eq, cases_Bool, cond_both, eq-eqb, ne_eqb, leb-true, leb-false}
use Rattle.std.specs.Cmp.{nat_cmp_is}
use Rattle.std.specs.declared.cmp.Ordering.{Ordering}
use Rattle.std.specs.declared.cmp.Ordering.TheVariants.{Less, Equal, Greater}
use Rattle.call_history.specs.declared.entry.Entry.{Entry}
use Rattle.call_history.specs.Entries.{PlacedList, insert_in_order, in_order}
use Rattle.call_history.proofs.Ordering.{AllFrom, AllFrom-inserted, AllFrom_weaker}

module _ {C R : Type 0} where
  -- those of this place
  abbrev at : ℕ → PlacedList C R → PlacedList C R
  at place [] = []
  at place (x ∷ xs) = cond (eqb x.0 place) (x ∷ at place xs) (at place xs)

  at-own : (k : ℕ) (x : ℕ × Entry C R) (xs : PlacedList C R) → x.0 ≡ k → at k (x ∷ xs) ≡ x ∷ at k xs
  at-own k x xs e = ap (λ (b : Bool). cond b (x ∷ at k xs) (at k xs)) (eq-eqb x.0 k e)

  at-other : (k : ℕ) (x : ℕ × Entry C R) (xs : PlacedList C R) → (x.0 ≡ k → ⊥) → at k (x ∷ xs) ≡ at k xs
  at-other k x xs n = ap (λ (b : Bool). cond b (x ∷ at k xs) (at k xs)) (ne_eqb x.0 k n)

  -- entries of two places change places
  at-swapped : (k : ℕ) (x y : ℕ × Entry C R) (xs : PlacedList C R) → y.0 < x.0 → at k (y ∷ x ∷ xs) ≡ at k (x ∷ y ∷ xs)
  at-swapped k x y xs below = ⊎_elim
      (λ own. at-other k y (x ∷ xs) (λ same. omega (arith, own, same, below))
      ∙ at-own k x xs own ∙ ap (λ (l : PlacedList C R). x ∷ l) (sym (at-other k y xs (λ same. omega (arith, own, same, below)))) ∙ sym (at-own k x (y ∷ xs) own))
      (λ other. ap (λ (l : PlacedList C R). cond (eqb y.0 k) (y ∷ l) l) (at-other k x xs other) ∙ sym (at-other k x (y ∷ xs) other))
      (cases_eq x.0 k)

  at-inserted : (k : ℕ) (x : ℕ × Entry C R) (ys : PlacedList C R) → at k (insert_in_order x ys) ≡ at k (x ∷ ys)
  at-inserted k x [] = refl
  at-inserted k x (y ∷ ys) = ⊎_elim
      (λ (low : leb x.0 y.0 ≡ true). ap (λ (b : Bool). at k (cond b (x ∷ y ∷ ys) (y ∷ insert_in_order x ys))) low)
      (λ (high : leb x.0 y.0 ≡ false). ap (λ (b : Bool). at k (cond b (x ∷ y ∷ ys) (y ∷ insert_in_order x ys))) high
      ∙ ap (λ (l : PlacedList C R). cond (eqb y.0 k) (y ∷ l) l) (at-inserted k x ys)
      ∙ at-swapped k x y ys (leb-false x.0 y.0 high))
      (cases_Bool (leb x.0 y.0))

  at-in_order : (k : ℕ) (xs : PlacedList C R) → at k (in_order xs) ≡ at k xs
  at-in_order k [] = refl
  at-in_order k (x ∷ xs) = at-inserted k x (in_order xs) ∙ ap (λ (l : PlacedList C R). cond (eqb x.0 k) (x ∷ l) l) (at-in_order k xs)

  -- each entry has no lower place than those before it
  abbrev Rises : PlacedList C R → Type 0
  Rises [] = Unit {0}
  Rises (x ∷ xs) = AllFrom x.0 xs × Rises xs

  Rises-inserted : (x : ℕ × Entry C R) (ys : PlacedList C R) → Rises ys → Rises (insert_in_order x ys)
  Rises-inserted x [] up = (tt, tt)
  Rises-inserted x (y ∷ ys) up = cond_both (leb x.0 y.0) (x ∷ y ∷ ys) (y ∷ insert_in_order x ys) Rises
      (λ low. let below = leb-true x.0 y.0 low in ((below, AllFrom_weaker y.0 x.0 ys below up.0), up))
      (λ high. let above = leb-false x.0 y.0 high in (AllFrom-inserted y.0 x ys (omega (arith, above)) up.0, Rises-inserted x ys up.1))

  Rises-in_order : (xs : PlacedList C R) → Rises (in_order xs)
  Rises-in_order [] = tt
  Rises-in_order (x ∷ xs) = Rises-inserted x (in_order xs) (Rises-in_order xs)

  all_from : (k : ℕ) (xs : PlacedList C R) → ((j : ℕ) (d : ℕ × Entry C R) → j < length xs → k ≤ (slice_index_or xs j d).0) → AllFrom k xs
  all_from k [] above = tt
  all_from k (x ∷ xs) above = (above zero x (omega arith), all_from k xs (λ j d l. above (suc j) d (omega (arith, l))))

  rises : (xs : PlacedList C R) → IsNonDecreasingBy (λ x. x.0) xs → Rises xs
  rises [] up = tt
  rises (x ∷ xs) up =
      (all_from x.0 xs (λ j d l. up zero (suc j) d (omega arith) (omega (arith, l))), rises xs (λ i j d l m. up (suc i) (suc j) d (omega (arith, l)) (omega (arith, m))))

  none_below : (j k : ℕ) (xs : PlacedList C R) → AllFrom k xs → j < k → at j xs ≡ []
  none_below j k [] all below = refl
  none_below j k (x ∷ xs) all below = let above = all.0 in
      at-other j x xs (λ same. omega (arith, same, above, below)) ∙ none_below j k xs all.1 below

  -- entries in order are determined by those of each place
  told_by_places : (xs ys : PlacedList C R) → Rises xs → Rises ys → ((k : ℕ) → at k xs ≡ at k ys) → xs ≡ ys
  told_by_places [] [] up up' each = refl
  told_by_places [] (y ∷ ys) up up' each = let long = ap length (each y.0 ∙ at-own y.0 y ys refl) in absurd (omega (arith, long))
  told_by_places (x ∷ xs) [] up up' each = let long = ap length (sym (each x.0) ∙ at-own x.0 x xs refl) in absurd (omega (arith, long))
  told_by_places (x ∷ xs) (y ∷ ys) up up' each =
      let first : x.0 ≡ y.0 = same_place x y xs ys up.0 up'.0 each in
      let both : x ∷ at x.0 xs ≡ y ∷ at x.0 ys = sym (at-own x.0 x xs refl) ∙ each x.0 ∙ at-own x.0 y ys (sym first) in
      let same : x ≡ y = ap (λ (l : PlacedList C R). get_or l 0 x) both in
      ap₂ (λ (z : ℕ × Entry C R) (l : PlacedList C R). z ∷ l) same
      (told_by_places xs ys up.1 up'.1 (λ k. ⊎_elim
      (λ own. subst (λ n. at n xs ≡ at n ys) own (ap (drop 1) both))
      (λ other. sym (at-other k x xs other) ∙ each k ∙ at-other k y ys (λ e. other (first ∙ e)))
      (cases_eq x.0 k)))
    where
      not_below : (x y : ℕ × Entry C R) (xs ys : PlacedList C R) → AllFrom x.0 xs → at y.0 (x ∷ xs) ≡ at y.0 (y ∷ ys) → y.0 < x.0 → ⊥
      not_below x y xs ys all same below =
          let long = ap length (sym (none_below y.0 x.0 (x ∷ xs) (omega arith, all) below) ∙ same ∙ at-own y.0 y ys refl) in omega (arith, long)

      same_place : (x y : ℕ × Entry C R) (xs ys : PlacedList C R) → AllFrom x.0 xs → AllFrom y.0 ys
          → ((k : ℕ) → at k (x ∷ xs) ≡ at k (y ∷ ys)) → x.0 ≡ y.0
      same_place x y xs ys all all' each =
          let one = not_below x y xs ys all (each y.0) in
          let two = not_below y x ys xs all' (sym (each x.0)) in
          ⊎_elim (λ e. e) (λ differ. absurd (apart x.0 y.0 differ one two)) (cases_eq x.0 y.0)
        where
          apart : (a b : ℕ) → (a ≡ b → ⊥) → (b < a → ⊥) → (a < b → ⊥) → ⊥
          apart a b differ one two = differ (omega (arith, one, two))

  -- the entries that tie with one of this place are those of the place
  at-ties : (x : ℕ × Entry C R) (xs : PlacedList C R) → filter (ties (λ x y. is_lt (nat_cmp x.0 y.0)) x) xs ≡ at x.0 xs
  at-ties x [] = refl
  at-ties x (y ∷ ys) =
      ap (λ (b : Bool). cond b (y ∷ filter (ties (λ x y. is_lt (nat_cmp x.0 y.0)) x) ys) (filter (ties (λ x y. is_lt (nat_cmp x.0 y.0)) x) ys)) (tie x.0 y.0)
      ∙ ap (λ (l : PlacedList C R). cond (eqb y.0 x.0) (y ∷ l) l) (at-ties x ys)
    where
      -- two tests that mean this of the two orders
      told : (p q : Ordering) (a b : ℕ) (same : Bool) → p ≡ nat_cmp a b → q ≡ nat_cmp b a → not (is_lt p) && not (is_lt q) ≡ same
          → not (is_lt (nat_cmp a b)) && not (is_lt (nat_cmp b a)) ≡ same
      told p q a b same one two is = ap₂ (λ (r s : Ordering). not (is_lt r) && not (is_lt s)) (sym one) (sym two) ∙ is

      tie : (a b : ℕ) → not (is_lt (nat_cmp a b)) && not (is_lt (nat_cmp b a)) ≡ eqb b a
      tie a b = ⊎_elim
          (λ (low : leb (suc a) b ≡ true). let below = leb-true (suc a) b low in
          told Less Greater a b _ (nat_cmp_is a b Less (omega (arith, below))) (nat_cmp_is b a Greater (omega (arith, below)))
          (sym (ne_eqb b a (λ same. omega (arith, same, below)))))
          (λ (high : leb (suc a) b ≡ false). let above = leb-false (suc a) b high in ⊎_elim
          (λ (same : b ≡ a). told Equal Equal a b _ (nat_cmp_is a b Equal (sym same)) (nat_cmp_is b a Equal same) (sym (eq-eqb b a same)))
          (λ (differ : b ≡ a → ⊥). let below : b < a = strict a b differ above in
          told Greater Less a b _ (nat_cmp_is a b Greater below) (nat_cmp_is b a Less below) (sym (ne_eqb b a differ)))
          (cases_eq b a))
          (cases_Bool (leb (suc a) b))
        where
          strict : (a b : ℕ) → (b ≡ a → ⊥) → b < suc a → b < a
          strict a b differ above = ⊎_elim
              (λ (low : leb (suc b) a ≡ true). let l = leb-true (suc b) a low in omega (arith, l))
              (λ (high : leb (suc b) a ≡ false). let h = leb-false (suc b) a high in absurd (differ (omega (arith, h, above))))
              (cases_Bool (leb (suc b) a))

  at_stable : (old new : PlacedList C R) → IsStableByKey (λ x. x.0) nat_cmp old new → (k : ℕ) → at k new ≡ at k old
  at_stable [] [] stable k = refl
  at_stable [] (y ∷ ys) stable k =
      let long = ap length (sym (at-own y.0 y ys refl) ∙ sym (at-ties y (y ∷ ys)) ∙ stable y) in absurd (omega (arith, long))
  at_stable (x ∷ xs) new stable k =
      let one : ℕ × Entry C R = (k, x.1) in sym (at-ties one new) ∙ stable one ∙ at-ties one (x ∷ xs)

  -- sorted entries, with those of one place in their order, are the entries in order of place
  pub sorted_in_order : (old new : PlacedList C R) → IsNonDecreasingBy (λ x. x.0) new → IsStableByKey (λ x. x.0) nat_cmp old new
      → new ≡ in_order old
  sorted_in_order old new up stable =
      told_by_places new (in_order old) (rises new up) (Rises-in_order old) (λ k. at_stable old new stable k ∙ sym (at-in_order k old))
