-- The views of all seats, if one changes, is cut in two or takes over another.
use Rattle.std.proofs.Common.{◌≡◌, ◌≢◌, ◌⊎◌, ℕ, zero, suc, ◌+◌, ◌<◌, ◌≤◌, List, [], ◌∷◌, ◌++◌, length, set}
use Rattle.std.proofs.Common.{get_or, sym, refl, ap, ◌∙◌, subst, inl, inr, ⊎_elim, zero-add, arith}
use Rattle.std.proofs.lemmas.List.Sums.{sum_by-set, sum_by-append}
use mathlib.Core.Option.{some, some-injective, some-ne-none}
use lib.ListN.{get_elem?}
use Rattle.atomic_table.proofs.Lists.{at_set, set_here, at_snoc}
use Rattle.turn_lock.specs.declared.view.View.{View}
use Rattle.turn_lock.specs.Views.{Owns, calls_left_of_views}

module _ {A : Type 0} where
  pub within : (l : List A) (i : ℕ) (a : A) → get_elem? l i ≡ some a → i < length l
  within [] i a e = absurd (some-ne-none a (sym e))
  within (x ∷ xs) zero a e = omega arith
  within (x ∷ xs) (suc i) a e = let more = within xs i a e in omega arith

  pub read : (l : List A) (i : ℕ) (a d : A) → get_elem? l i ≡ some a → get_or l i d ≡ a
  read [] i a d e = absurd (some-ne-none a (sym e))
  read (x ∷ xs) zero a d e = some-injective x a e
  read (x ∷ xs) (suc i) a d e = read xs i a d e

  pub at_same : (l : List A) (i : ℕ) (a b : A) → get_elem? l i ≡ some a → get_elem? l i ≡ some b → a ≡ b
  at_same l i a b e f = some-injective a b (sym e ∙ f)

  pub at_written : (l : List A) (i : ℕ) (a b : A) → get_elem? l i ≡ some a → get_elem? (set l i b) i ≡ some b
  at_written l i a b e = set_here l i b (within l i a e)

  -- an element of a list with one more at its end, which is at that end or before
  pub at_end : (l : List A) (a b : A) (j : ℕ) → get_elem? (l ++ a ∷ []) j ≡ some b
      → (get_elem? l j ≡ some b) ⊎ ((j ≡ length l) × (a ≡ b))
  at_end [] a b zero e = inr (refl, some-injective a b e)
  at_end [] a b (suc j) e = absurd (some-ne-none b (sym e))
  at_end (x ∷ xs) a b zero e = inl e
  at_end (x ∷ xs) a b (suc j) e = ⊎_elim inl (λ t. inr (ap suc t.0, t.1)) (at_end xs a b j e)

  pub set_swap : (l : List A) (i j : ℕ) (a b : A) → i ≢ j → set (set l i a) j b ≡ set (set l j b) i a
  set_swap [] i j a b ne = refl
  set_swap (x ∷ xs) zero zero a b ne = absurd (ne refl)
  set_swap (x ∷ xs) zero (suc j) a b ne = refl
  set_swap (x ∷ xs) (suc i) zero a b ne = refl
  set_swap (x ∷ xs) (suc i) (suc j) a b ne = ap (λ (l : List A). x ∷ l)
      (set_swap xs i j a b (λ e. ne (ap suc e)))

  -- a list of one, after a write
  pub only : (l : List A) (a : A) → length l ≡ 1 → set l 0 a ≡ a ∷ []
  only [] a long = absurd (omega arith)
  only (x ∷ []) a long = refl
  only (x ∷ y ∷ ys) a long = absurd (omega arith)

module _ {C R : Type 0} where
  -- what holds of each view after one has changed
  pub each_set : (P : ℕ → View C R → Type 0) (vs : List (View C R)) (id : ℕ) (w : View C R) → P id w
      → ((j : ℕ) (u : View C R) → j ≢ id → get_elem? vs j ≡ some u → P j u)
      → (j : ℕ) (u : View C R) → get_elem? (set vs id w) j ≡ some u → P j u
  each_set P vs id w mine others j u e = ⊎_elim
      (λ (t : (j ≡ id) × (w ≡ u)). subst (λ (x : ℕ × View C R). P x.0 x.1) (λ i. (sym t.0 i, t.1 i)) mine)
      (λ (t : (j ≢ id) × (get_elem? vs j ≡ some u)). others j u t.0 t.1)
      (at_set vs id j w u e)

  -- what holds of each view after a new seat was added
  pub each_new : (P : ℕ → View C R → Type 0) (vs : List (View C R)) (w : View C R) → ((j : ℕ) → P j w)
      → ((j : ℕ) (u : View C R) → get_elem? vs j ≡ some u → P j u)
      → (j : ℕ) (u : View C R) → get_elem? (vs ++ w ∷ []) j ≡ some u → P j u
  each_new P vs w mine others j u e = ⊎_elim
      (λ (t : get_elem? vs j ≡ some u). others j u t)
      (λ (t : w ≡ u). subst (P j) t (mine j))
      (at_snoc vs w u j e)

  -- no number is owned twice
  abbrev pub Apart : List (View C R) → Type 0
  Apart vs =
      (i j : ℕ) (v w : View C R) → get_elem? vs i ≡ some v → get_elem? vs j ≡ some w → i ≢ j → (caller : ℕ)
      → Owns v caller → Owns w caller → ⊥

  -- no seat but this one owns one of these numbers
  abbrev pub Alone : List (View C R) → ℕ → View C R → Type 0
  Alone vs id w =
      (j : ℕ) (u : View C R) → j ≢ id → get_elem? vs j ≡ some u → (caller : ℕ) → Owns u caller → Owns w caller
      → ⊥

  pub alone : (vs : List (View C R)) (id : ℕ) (v : View C R) → Apart vs → get_elem? vs id ≡ some v
      → Alone vs id v
  alone vs id v apart at j u ne at' caller theirs mine = apart j id u v at' at ne caller theirs mine

  pub apart_set : (vs : List (View C R)) (id : ℕ) (w : View C R) → Apart vs → Alone vs id w
      → Apart (set vs id w)
  apart_set vs id w apart only i j u v at at' ne = go (at_set vs id i w u at) (at_set vs id j w v at')
    where
      go : ((i ≡ id) × (w ≡ u)) ⊎ ((i ≢ id) × (get_elem? vs i ≡ some u))
          → ((j ≡ id) × (w ≡ v)) ⊎ ((j ≢ id) × (get_elem? vs j ≡ some v))
          → (caller : ℕ) → Owns u caller → Owns v caller → ⊥
      go (inl s) (inl t) caller a b = ne (s.0 ∙ sym t.0)
      go (inl s) (inr t) caller a b = only j v t.0 t.1 caller b (subst (λ z. Owns z caller) (sym s.1) a)
      go (inr s) (inl t) caller a b = only i u s.0 s.1 caller a (subst (λ z. Owns z caller) (sym t.1) b)
      go (inr s) (inr t) caller a b = apart i j u v s.1 t.1 ne caller a b

  pub apart_new : (vs : List (View C R)) (w : View C R) → Apart vs
      → ((j : ℕ) (u : View C R) → get_elem? vs j ≡ some u → (caller : ℕ) → Owns u caller → Owns w caller → ⊥)
      → Apart (vs ++ w ∷ [])
  apart_new vs w apart none i j u v at at' ne = go (at_end vs w u i at) (at_end vs w v j at')
    where
      go : (get_elem? vs i ≡ some u) ⊎ ((i ≡ length vs) × (w ≡ u))
          → (get_elem? vs j ≡ some v) ⊎ ((j ≡ length vs) × (w ≡ v))
          → (caller : ℕ) → Owns u caller → Owns v caller → ⊥
      go (inl s) (inl t) caller a b = apart i j u v s t ne caller a b
      go (inl s) (inr t) caller a b = none i u s caller a (subst (λ z. Owns z caller) (sym t.1) b)
      go (inr s) (inl t) caller a b = none j v t caller b (subst (λ z. Owns z caller) (sym s.1) a)
      go (inr s) (inr t) caller a b = ne (s.0 ∙ sym t.0)

  -- the calls left of all, after one seat's have changed
  pub left_set : (vs : List (View C R)) (id : ℕ) (v w : View C R) → get_elem? vs id ≡ some v
      → calls_left_of_views (set vs id w) + v.left ≡ calls_left_of_views vs + w.left
  left_set vs id v w at =
      ap (λ (u : View C R). calls_left_of_views (set vs id w) + u.left) (sym (read vs id v v at))
      ∙ sum_by-set (λ u. u.left) vs id w v (within vs id v at)

  pub left_new : (vs : List (View C R)) (w : View C R) → calls_left_of_views (vs ++ w ∷ []) ≡ calls_left_of_views vs + w.left
  left_new vs w = sum_by-append (λ u. u.left) vs (w ∷ []) ∙ ap (λ n. calls_left_of_views vs + n) (zero-add w.left)

  -- a seat has no more calls left than all have
  pub left_at : (vs : List (View C R)) (id : ℕ) (v : View C R) → get_elem? vs id ≡ some v
      → v.left ≤ calls_left_of_views vs
  left_at vs id v at =
      let none : View C R = record v { left = 0 } in let sums = left_set vs id v none at in omega arith
