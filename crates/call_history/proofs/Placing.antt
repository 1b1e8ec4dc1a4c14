-- Entries with their places, and those of one caller among them.
use Rattle.std.proofs.Common.{◌≡◌, ◌≢◌, ℕ, suc, ◌+◌, Bool, cond, eqb, [], ◌∷◌, ◌++◌, length, map, sym, refl, ap, ◌∙◌, append-nil, eq-eqb, ne_eqb, zero-add, ⊎_elim, arith}
use Rattle.std.proofs.lemmas.Bool.{cases_eq}
use Rattle.std.proofs.lemmas.List.Elements.{filter-append}
use Rattle.call_history.specs.declared.entry.Entry.{Entry}
use Rattle.call_history.specs.Prefix.{IsPrefix}
use Rattle.call_history.specs.Entries.{History, PlacedList, entries_with_places, by, entries_by}

module _ {C R : Type 0} where
  pub numbered-append : (k : ℕ) (h t : History C R) → entries_with_places k (h ++ t) ≡ entries_with_places k h ++ entries_with_places (k + length h) t
  numbered-append k [] t = ap (λ n. entries_with_places n t) (omega arith)
  numbered-append k (e ∷ h) t = ap (λ (l : PlacedList C R). (k, e) ∷ l) (numbered-append (k + 1) h t ∙ ap (λ n. entries_with_places (k + 1) h ++ entries_with_places n t) (omega arith))

  pub length-numbered : (k : ℕ) (h : History C R) → length (entries_with_places k h) ≡ length h
  length-numbered k [] = refl
  length-numbered k (e ∷ h) = ap suc (length-numbered (k + 1) h)

  -- the entries without their places
  pub map-numbered : (k : ℕ) (h : History C R) → map (λ x. x.1) (entries_with_places k h) ≡ h
  map-numbered k [] = refl
  map-numbered k (e ∷ h) = ap (λ (l : History C R). e ∷ l) (map-numbered (k + 1) h)

  pub by-append : (c : ℕ) (xs ys : PlacedList C R) → by c (xs ++ ys) ≡ by c xs ++ by c ys
  by-append c xs ys = filter-append (λ x. eqb x.1.who c) xs ys

  pub by-cons_own : (c : ℕ) (x : ℕ × Entry C R) (xs : PlacedList C R) → x.1.who ≡ c → by c (x ∷ xs) ≡ x ∷ by c xs
  by-cons_own c x xs e = ap (λ (b : Bool). cond b (x ∷ by c xs) (by c xs)) (eq-eqb x.1.who c e)

  pub by-cons_other : (c : ℕ) (x : ℕ × Entry C R) (xs : PlacedList C R) → x.1.who ≢ c → by c (x ∷ xs) ≡ by c xs
  by-cons_other c x xs n = ap (λ (b : Bool). cond b (x ∷ by c xs) (by c xs)) (ne_eqb x.1.who c n)

  pub by-by : (c : ℕ) (xs : PlacedList C R) → by c (by c xs) ≡ by c xs
  by-by c [] = refl
  by-by c (x ∷ xs) = ⊎_elim
      (λ e. ap (by c) (by-cons_own c x xs e) ∙ (by-cons_own c x (by c xs) e ∙ (ap (λ (l : PlacedList C R). x ∷ l) (by-by c xs) ∙ sym (by-cons_own c x xs e))))
      (λ n. ap (by c) (by-cons_other c x xs n) ∙ (by-by c xs ∙ sym (by-cons_other c x xs n)))
      (cases_eq x.1.who c)

  pub by-by_other : (c d : ℕ) (xs : PlacedList C R) → c ≢ d → by c (by d xs) ≡ []
  by-by_other c d [] n = refl
  by-by_other c d (x ∷ xs) n = ⊎_elim
      (λ e. ap (by c) (by-cons_own d x xs e) ∙ (by-cons_other c x (by d xs) (λ f. n (sym f ∙ e)) ∙ by-by_other c d xs n))
      (λ o. ap (by c) (by-cons_other d x xs o) ∙ by-by_other c d xs n)
      (cases_eq x.1.who d)

  -- a history that goes on by one entry
  pub entries_by-more_own : (c : ℕ) (h : History C R) (e : Entry C R) → e.who ≡ c → entries_by c (h ++ e ∷ []) ≡ entries_by c h ++ (length h, e) ∷ []
  entries_by-more_own c h e own =
      ap (by c) (numbered-append 0 h (e ∷ [])) ∙ (by-append c (entries_with_places 0 h) (entries_with_places (0 + length h) (e ∷ []))
      ∙ ap (λ (l : PlacedList C R). entries_by c h ++ l) (by-cons_own c (0 + length h, e) [] own ∙ ap (λ (n : ℕ). (n, e) ∷ []) (zero-add (length h))))

  pub entries_by-more_other : (c : ℕ) (h : History C R) (e : Entry C R) → e.who ≢ c → entries_by c (h ++ e ∷ []) ≡ entries_by c h
  entries_by-more_other c h e other =
      ap (by c) (numbered-append 0 h (e ∷ [])) ∙ (by-append c (entries_with_places 0 h) (entries_with_places (0 + length h) (e ∷ []))
      ∙ (ap (λ (l : PlacedList C R). entries_by c h ++ l) (by-cons_other c (0 + length h, e) [] other) ∙ append-nil (entries_by c h)))

  -- a caller's entries in a beginning begin those in the whole
  pub IsPrefix-entries_by : (c : ℕ) (g h : History C R) → IsPrefix g h → IsPrefix (entries_by c g) (entries_by c h)
  IsPrefix-entries_by c g h p =
      (by c (entries_with_places (0 + length g) p.0), sym (ap (by c) (numbered-append 0 g p.0) ∙ by-append c (entries_with_places 0 g) (entries_with_places (0 + length g) p.0)) ∙ ap (entries_by c) p.1)

  -- entries of which each caller made none
  pub by_nobody : (xs : PlacedList C R) → ((c : ℕ) → by c xs ≡ []) → xs ≡ []
  by_nobody [] none = refl
  by_nobody (x ∷ xs) none = let long = ap length (sym (by-cons_own x.1.who x xs refl) ∙ none x.1.who) in absurd (omega arith)
