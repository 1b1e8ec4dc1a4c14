-- Which callers' entries a pass retains when it is split, and has when it took in another.
use Rattle.std.proofs.Common.{◌≡◌, ◌≢◌, ℕ, ◌<◌, ◌≤◌, Bool, true, false, cond, not, eqb, leb, ltb, List, []}
use Rattle.std.proofs.Common.{◌∷◌, ◌++◌, length, filter, sym, refl, ap, ◌∙◌, ⊎_elim, append-nil}
use Rattle.std.proofs.Common.{length-append, arith}
use Rattle.std.proofs.lemmas.Bool.{cases_Bool, cond_both, eqb-true, lt-ltb, le-ltb, le-leb, lt-leb, leb-true}
use Rattle.std.proofs.lemmas.Bool.{leb-false}
use Rattle.std.proofs.lemmas.List.Filters.{length-filter_both}
use Rattle.call_history.specs.Prefix.{IsPrefix}
use Rattle.call_history.specs.Entries.{History, PlacedList, by, entries_with_places, entries_by}
use Rattle.call_history.proofs.Prefixes.{IsPrefix-refl, IsPrefix_shorter}
use Rattle.call_history.proofs.Placing.{by-append, by-by_other, length-numbered}
use Rattle.turn_lock.specs.PassParts.{under, over, longer}
use Rattle.turn_lock.specs.Steps.{shorter}

module _ {X : Type 0} (p q : X → Bool) where
  -- a filter after one that lets through all that it does
  filter_wider : ((x : X) → q x ≡ true → p x ≡ true) → (xs : List X) → filter q (filter p xs) ≡ filter q xs
  filter_wider wider [] = refl
  filter_wider wider (x ∷ xs) = let rest = filter_wider wider xs in ⊎_elim
      (λ (t : q x ≡ true). rw (wider x t) (rw t (ap (λ (l : List X). x ∷ l) rest)))
      (λ (f : q x ≡ false). rw f (⊎_elim (λ (t : p x ≡ true). rw t (rw f rest))
      (λ (o : p x ≡ false). rw o rest) (cases_Bool (p x))))
      (cases_Bool (q x))

  -- and after one that lets through nothing of it
  filter_none : ((x : X) → q x ≡ true → p x ≡ false) → (xs : List X) → filter q (filter p xs) ≡ []
  filter_none other [] = refl
  filter_none other (x ∷ xs) = let rest = filter_none other xs in ⊎_elim
      (λ (t : q x ≡ true). rw (other x t) rest)
      (λ (f : q x ≡ false). ⊎_elim (λ (t : p x ≡ true). rw t (rw f rest)) (λ (o : p x ≡ false). rw o rest)
      (cases_Bool (p x)))
      (cases_Bool (q x))

module _ {C R : Type 0} where
  pub by-under : (c at : ℕ) (xs : PlacedList C R) → c < at → by c (under at xs) ≡ by c xs
  by-under c at xs l =
      filter_wider (λ x. ltb x.1.who at) (λ x. eqb x.1.who c)
      (λ x t. let same = eqb-true x.1.who c t in lt-ltb x.1.who at (omega arith)) xs

  pub by-under_none : (c at : ℕ) (xs : PlacedList C R) → at ≤ c → by c (under at xs) ≡ []
  by-under_none c at xs l =
      filter_none (λ x. ltb x.1.who at) (λ x. eqb x.1.who c)
      (λ x t. let same = eqb-true x.1.who c t in le-ltb x.1.who at (omega arith)) xs

  pub by-over : (c at : ℕ) (xs : PlacedList C R) → at ≤ c → by c (over at xs) ≡ by c xs
  by-over c at xs l =
      filter_wider (λ x. leb at x.1.who) (λ x. eqb x.1.who c)
      (λ x t. let same = eqb-true x.1.who c t in le-leb at x.1.who (omega arith)) xs

  pub by-over_none : (c at : ℕ) (xs : PlacedList C R) → c < at → by c (over at xs) ≡ []
  by-over_none c at xs l =
      filter_none (λ x. leb at x.1.who) (λ x. eqb x.1.who c)
      (λ x t. let same = eqb-true x.1.who c t in lt-leb at x.1.who (omega arith)) xs

  -- a caller has none of another's own entries
  pub by_not_own : (c who : ℕ) (mine : PlacedList C R) → by who mine ≡ mine → c ≢ who → by c mine ≡ []
  by_not_own c who mine own other = ap (by c) (sym own) ∙ by-by_other c who mine other

  -- of a caller's past and own entries, if it has no own ones
  pub by_past : (c : ℕ) (past mine : PlacedList C R) → by c mine ≡ [] → by c (past ++ mine) ≡ by c past
  by_past c past mine none =
      by-append c past mine ∙ (ap (λ (l : PlacedList C R). by c past ++ l) none ∙ append-nil (by c past))

  pub by_mine : (c : ℕ) (past mine : PlacedList C R) → by c past ≡ [] → by c (past ++ mine) ≡ by c mine
  by_mine c past mine none = by-append c past mine ∙ ap (λ (l : PlacedList C R). l ++ by c mine) none

  -- a caller's own entries are no more than there are
  pub length-mine : (who : ℕ) (past mine : PlacedList C R) (h : History C R) → by who mine ≡ mine
      → by who (past ++ mine) ≡ entries_by who h → length mine ≤ length h
  length-mine who past mine h own all =
      let parts = sym (ap length (by-append who past mine
      ∙ ap (λ (l : PlacedList C R). by who past ++ l) own)) ∙ ap length all in
      let sum = length-append (by who past) mine in
      let most = length-filter_both (λ x. eqb x.1.who who) (λ x. not (eqb x.1.who who)) (λ _. refl)
      (entries_with_places 0 h) in
      let long = length-numbered 0 h in
      omega arith

  pub shorter-longer : (g h w : History C R) → IsPrefix g w → IsPrefix h w
      → IsPrefix (shorter g h) (longer g h)
  shorter-longer g h w p q = ⊎_elim
      (λ (t : leb (length g) (length h) ≡ true).
      rw t (IsPrefix_shorter g h w p q (leb-true (length g) (length h) t)))
      (λ (f : leb (length g) (length h) ≡ false). let l = leb-false (length g) (length h) f in
      rw f (IsPrefix_shorter h g w q p (omega arith)))
      (cases_Bool (leb (length g) (length h)))

  pub IsPrefix-longer_both : (g h w : History C R) → IsPrefix g w → IsPrefix h w → IsPrefix (longer g h) w
  IsPrefix-longer_both g h w p q =
      cond_both (leb (length g) (length h)) h g (λ l. IsPrefix l w) (λ _. q) (λ _. p)

  pub IsPrefix-shorter_both : (g h w : History C R) → IsPrefix g w → IsPrefix h w → IsPrefix (shorter g h) w
  IsPrefix-shorter_both g h w p q =
      cond_both (leb (length g) (length h)) g h (λ l. IsPrefix l w) (λ _. p) (λ _. q)

  -- each of two lists is the shorter or the longer one
  pub of_shorter : (g h : History C R) → IsPrefix (shorter g h) (longer g h)
      → IsPrefix g (longer g h) × IsPrefix h (longer g h)
  of_shorter g h p = go (leb (length g) (length h)) p
    where
      go : (b : Bool) → IsPrefix (cond b g h) (cond b h g) → IsPrefix g (cond b h g) × IsPrefix h (cond b h g)
      go true p = (p, IsPrefix-refl h)
      go false p = (IsPrefix-refl g, p)

  pub length-shorter : (g h : History C R) → length (shorter g h) ≤ length (longer g h)
  length-shorter g h = ⊎_elim
      (λ (t : leb (length g) (length h) ≡ true). rw t (leb-true (length g) (length h) t))
      (λ (f : leb (length g) (length h) ≡ false). let l = leb-false (length g) (length h) f in
      rw f (omega arith))
      (cases_Bool (leb (length g) (length h)))
