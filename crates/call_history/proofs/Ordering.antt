-- Entries in order of place: those that are, caller by caller, the entries of a history are that history.
use Rattle.std.proofs.Common.{◌≡◌, ℕ, ◌+◌, ◌<◌, ◌≤◌, Bool, leb, if◌then◌else◌, [], ◌∷◌, ◌++◌, length, map, drop, get_or, sym, refl, ap, ◌∙◌, subst, ⊎_elim, arith}
use Rattle.std.proofs.lemmas.Bool.{cases_eq, cond_both, le-leb, lt-leb}
use Rattle.call_history.specs.declared.entry.Entry.{Entry}
use Rattle.call_history.specs.Entries.{History, PlacedList, entries_with_places, by, entries_by, insert_in_order, in_order, history_in_order, IsComplete}
use Rattle.call_history.proofs.Placing.{by-append, by-cons_own, by-cons_other, by_nobody, map-numbered}

module _ {C R : Type 0} where
  -- no place is below k
  abbrev pub AllFrom : ℕ → PlacedList C R → Type 0
  AllFrom k [] = Unit {0}
  AllFrom k (x ∷ xs) = (k ≤ x.0) × AllFrom k xs

  pub AllFrom-numbered : (k n : ℕ) (h : History C R) → k ≤ n → AllFrom k (entries_with_places n h)
  AllFrom-numbered k n [] l = tt
  AllFrom-numbered k n (e ∷ h) l = (l, AllFrom-numbered k (n + 1) h (omega arith))

  AllFrom-by : (k c : ℕ) (xs : PlacedList C R) → AllFrom k xs → AllFrom k (by c xs)
  AllFrom-by k c [] all = tt
  AllFrom-by k c (x ∷ xs) all = ⊎_elim
      (λ e. subst (AllFrom k) (sym (by-cons_own c x xs e)) (all.0, AllFrom-by k c xs all.1))
      (λ n. subst (AllFrom k) (sym (by-cons_other c x xs n)) (AllFrom-by k c xs all.1))
      (cases_eq x.1.who c)

  AllFrom_rest : (k c : ℕ) (x : ℕ × Entry C R) (xs : PlacedList C R) → AllFrom k (by c (x ∷ xs)) → AllFrom k (by c xs)
  AllFrom_rest k c x xs all = ⊎_elim
      (λ e. (subst (AllFrom k) (by-cons_own c x xs e) all).1)
      (λ n. subst (AllFrom k) (by-cons_other c x xs n) all)
      (cases_eq x.1.who c)

  AllFrom_callers : (k : ℕ) (xs : PlacedList C R) → ((c : ℕ) → AllFrom k (by c xs)) → AllFrom k xs
  AllFrom_callers k [] each = tt
  AllFrom_callers k (x ∷ xs) each =
      ((subst (AllFrom k) (by-cons_own x.1.who x xs refl) (each x.1.who)).0, AllFrom_callers k xs (λ c. AllFrom_rest k c x xs (each c)))

  inserted_first : (x : ℕ × Entry C R) (ys : PlacedList C R) → AllFrom x.0 ys → insert_in_order x ys ≡ x ∷ ys
  inserted_first x [] all = refl
  inserted_first x (y ∷ ys) all = ap (λ (b : Bool). if b then x ∷ y ∷ ys else y ∷ insert_in_order x ys) (le-leb x.0 y.0 all.0)

  inserted_after : (x y : ℕ × Entry C R) (ys : PlacedList C R) → y.0 < x.0 → insert_in_order x (y ∷ ys) ≡ y ∷ insert_in_order x ys
  inserted_after x y ys l = ap (λ (b : Bool). if b then x ∷ y ∷ ys else y ∷ insert_in_order x ys) (lt-leb x.0 y.0 l)

  pub AllFrom-inserted : (k : ℕ) (x : ℕ × Entry C R) (ys : PlacedList C R) → k ≤ x.0 → AllFrom k ys → AllFrom k (insert_in_order x ys)
  AllFrom-inserted k x [] l all = (l, tt)
  AllFrom-inserted k x (y ∷ ys) l all = cond_both (leb x.0 y.0) (x ∷ y ∷ ys) (y ∷ insert_in_order x ys) (AllFrom k)
      (λ _. (l, all)) (λ _. (all.0, AllFrom-inserted k x ys l all.1))

  AllFrom-in_order : (k : ℕ) (xs : PlacedList C R) → AllFrom k xs → AllFrom k (in_order xs)
  AllFrom-in_order k [] all = tt
  AllFrom-in_order k (x ∷ xs) all = AllFrom-inserted k x (in_order xs) all.0 (AllFrom-in_order k xs all.1)

  pub AllFrom_weaker : (k j : ℕ) (ys : PlacedList C R) → j ≤ k → AllFrom k ys → AllFrom j ys
  AllFrom_weaker k j [] l all = tt
  AllFrom_weaker k j (y ∷ ys) l all = let lower : k ≤ y.0 = all.0 in (omega arith, AllFrom_weaker k j ys l all.1)

  -- the entry of the lowest place is the first, whatever its position was
  first_out : (x : ℕ × Entry C R) (ps qs : PlacedList C R) → AllFrom (x.0 + 1) (ps ++ qs) → in_order (ps ++ x ∷ qs) ≡ x ∷ in_order (ps ++ qs)
  first_out x [] qs all = inserted_first x (in_order qs) (AllFrom_weaker (x.0 + 1) x.0 (in_order qs) (omega arith) (AllFrom-in_order (x.0 + 1) qs all))
  first_out x (p ∷ ps) qs all =
      let above : x.0 + 1 ≤ p.0 = all.0 in
      ap (insert_in_order p) (first_out x ps qs all.1) ∙ inserted_after p x (in_order (ps ++ qs)) (omega arith)

  -- the position of a caller's first entry among all
  record Found (x : ℕ × Entry C R) (xs : PlacedList C R) : Type 0 where
    before : PlacedList C R
    after : PlacedList C R
    is : xs ≡ before ++ x ∷ after
    others : by x.1.who before ≡ []

  found : (x : ℕ × Entry C R) (rest xs : PlacedList C R) → by x.1.who xs ≡ x ∷ rest → Found x xs
  found x rest [] e = let long = ap length e in absurd (omega arith)
  found x rest (y ∷ ys) e = ⊎_elim
      (λ own. let same = sym (by-cons_own x.1.who y ys own) ∙ e in
      let first : y ≡ x = ap (λ (l : PlacedList C R). get_or l 0 y) same in
      record { before = []; after = ys; is = ap (λ (z : ℕ × Entry C R). z ∷ ys) first; others = refl })
      (λ other. let below = found x rest ys (sym (by-cons_other x.1.who y ys other) ∙ e) in
      record { before = y ∷ below.before; after = below.after; is = ap (λ (l : PlacedList C R). y ∷ l) below.is; others = by-cons_other x.1.who y below.before other ∙ below.others })
      (cases_eq y.1.who x.1.who)

  -- each caller's entries, once this one is taken out
  without : (c k : ℕ) (e : Entry C R) (h : History C R) (ps qs : PlacedList C R) → by e.who ps ≡ []
      → by c (ps ++ (k, e) ∷ qs) ≡ by c (entries_with_places k (e ∷ h)) → by c (ps ++ qs) ≡ by c (entries_with_places (k + 1) h)
  without c k e h ps qs others same =
      let x : ℕ × Entry C R = (k, e) in
      let parts : by c ps ++ by c (x ∷ qs) ≡ by c (x ∷ entries_with_places (k + 1) h) = sym (by-append c ps (x ∷ qs)) ∙ same in
      by-append c ps qs ∙ ⊎_elim
      (λ own. let none : by c ps ≡ [] = subst (λ d. by d ps ≡ []) own others in
      let left = sym (ap (λ (l : PlacedList C R). l ++ by c (x ∷ qs)) none) ∙ parts in
      let left' : x ∷ by c qs ≡ x ∷ by c (entries_with_places (k + 1) h) = sym (by-cons_own c x qs own) ∙ (left ∙ by-cons_own c x (entries_with_places (k + 1) h) own) in
      ap (λ (l : PlacedList C R). l ++ by c qs) none ∙ ap (drop 1) left')
      (λ other. ap (λ (l : PlacedList C R). by c ps ++ l) (sym (by-cons_other c x qs other)) ∙ (parts ∙ by-cons_other c x (entries_with_places (k + 1) h) other))
      (cases_eq e.who c)

  -- entries that are, caller by caller, those of a history whose first place is k
  pub in_order_by_callers : (k : ℕ) (h : History C R) (xs : PlacedList C R) → ((c : ℕ) → by c xs ≡ by c (entries_with_places k h)) → in_order xs ≡ entries_with_places k h
  in_order_by_callers k [] xs each = ap in_order (by_nobody xs each)
  in_order_by_callers k (e ∷ h) xs each =
      let x : ℕ × Entry C R = (k, e) in
      let there = found x (by e.who (entries_with_places (k + 1) h)) xs (each e.who ∙ by-cons_own e.who x (entries_with_places (k + 1) h) refl) in
      let ps = there.before in
      let qs = there.after in
      let less : (c : ℕ) → by c (ps ++ qs) ≡ by c (entries_with_places (k + 1) h)
      = λ c. without c k e h ps qs there.others (ap (by c) (sym there.is) ∙ each c) in
      let all : AllFrom (k + 1) (ps ++ qs)
      = AllFrom_callers (k + 1) (ps ++ qs) (λ c. subst (AllFrom (k + 1)) (sym (less c)) (AllFrom-by (k + 1) c (entries_with_places (k + 1) h) (AllFrom-numbered (k + 1) (k + 1) h (omega arith)))) in
      ap in_order there.is ∙ (first_out x ps qs all ∙ ap (λ (l : PlacedList C R). x ∷ l) (in_order_by_callers (k + 1) h (ps ++ qs) less))

  -- a history already is in order of place
  pub in_order-numbered : (k : ℕ) (h : History C R) → in_order (entries_with_places k h) ≡ entries_with_places k h
  in_order-numbered k h = in_order_by_callers k h (entries_with_places k h) (λ c. refl)

  -- entries that are, caller by caller, those of a history make that history
  pub merged_by_callers : (h : History C R) (xs : PlacedList C R) → ((c : ℕ) → by c xs ≡ entries_by c h) → history_in_order xs ≡ h
  merged_by_callers h xs each = ap (map (λ x. x.1)) (in_order_by_callers 0 h xs each) ∙ map-numbered 0 h

  pub IsComplete_by_callers : (h : History C R) (xs : PlacedList C R) → ((c : ℕ) → by c xs ≡ entries_by c h) → IsComplete xs
  IsComplete_by_callers h xs each = in_order_by_callers 0 h xs each ∙ ap (entries_with_places 0) (sym (merged_by_callers h xs each))

  pub merged-numbered : (h : History C R) → history_in_order (entries_with_places 0 h) ≡ h
  merged-numbered h = merged_by_callers h (entries_with_places 0 h) (λ c. refl)
