-- Lists of pairs without some of them.
use Rattle.std.proofs.Common.{◌≡◌, ℕ, ◌+◌, Bool, true, false, cond, List, [], ◌∷◌, length, Contains, Option, Some, None, option_map, not, inl, inr, refl, sym, ap, subst, ◌∙◌, arith}
use Rattle.std.specs.List.{filter, find, IsDistinct, AllByRecursion}
use Rattle.std.specs.Option.{option_map_or}
use Rattle.std.specs.Map.{lookup, lookup_entry, remove_entry, keys_of}
use Rattle.lru.specs.LruCache.{promoted}
use Rattle.lru.proofs.CallerLemmas.{Contains-lookup_entry}
use Rattle.lru.proofs.Splits.{Contains-cons, Contains-head, Contains-tail, Contains-nil}

module _ {K : Type 0} (test : K → Bool) where
  -- the number that is found is that of the pair that is found
  pub number_of : (es : List (K × ℕ)) → lookup test es ≡ option_map (λ (e : K × ℕ). e.1) (lookup_entry test es)
  number_of [] = refl
  number_of (e ∷ es) =
      elim (test e.0) as (λ b. cond b (Some e.1) (lookup test es) ≡ option_map (λ (e : K × ℕ). e.1) (cond b (Some e) (lookup_entry test es))) [
        | true ↦ refl
        | false ↦ number_of es
      ]

  -- a pair that comes to the front is found there
  pub promoted_found : (es : List (K × ℕ)) → lookup test (promoted test es) ≡ lookup test es
  promoted_found es = at_found (lookup_entry test es) refl
    where
      at_found : (o : Option (K × ℕ)) → lookup_entry test es ≡ o
          → lookup test (option_map_or (λ (e : K × ℕ). e ∷ remove_entry test es) o es) ≡ lookup test es
      at_found None none = refl
      at_found (Some e) found =
          ap (λ b. cond b (Some e.1) (lookup test (remove_entry test es))) (Contains-lookup_entry test es e found).1
          ∙ sym (number_of es ∙ ap (option_map (λ (e : K × ℕ). e.1)) found)

  -- if no key passes, nothing is removed
  pub removed_none : (es : List (K × ℕ)) → lookup_entry test es ≡ None → remove_entry test es ≡ es
  removed_none [] none = refl
  removed_none (e ∷ es) none =
      elim (test e.0) as (λ b. cond b (Some e) (lookup_entry test es) ≡ None → cond b es (e ∷ remove_entry test es) ≡ e ∷ es) [
        | true ↦ λ h. absurd (cc)
        | false ↦ λ h. ap (λ rest. e ∷ rest) (removed_none es h)
      ] none

  -- else there is one less
  pub removed_one : (es : List (K × ℕ)) (x : K × ℕ) → lookup_entry test es ≡ Some x → length (remove_entry test es) + 1 ≡ length es
  removed_one [] x found = absurd (cc)
  removed_one (e ∷ es) x found =
      elim (test e.0) as (λ b. cond b (Some e) (lookup_entry test es) ≡ Some x → length (cond b es (e ∷ remove_entry test es)) + 1 ≡ length (e ∷ es)) [
        | true ↦ λ h. omega arith
        | false ↦ λ h. let rest : length (remove_entry test es) + 1 ≡ length es = removed_one es x h in omega arith
      ] found

  all_fail : (e : K × ℕ) (es : List (K × ℕ)) → AllByRecursion (λ k. test k ≡ false) (keys_of es) → Contains es e → test e.0 ≡ false
  all_fail e [] all held = absurd (Contains-nil e held)
  all_fail e (f ∷ es) all held = elim (Contains-cons f es e held) [
    | inl is ↦ subst (λ (g : K × ℕ). test g.0 ≡ false) is all.0
    | inr later ↦ all_fail e es all.1 later
  ]

  others_fail : (eq : K → K → Bool) (k : K) (ks : List K) → ((y : K) → test y ≡ eq k y) → AllByRecursion (λ y. eq k y ≡ false) ks → AllByRecursion (λ y. test y ≡ false) ks
  others_fail eq k [] same all = tt
  others_fail eq k (y ∷ ks) same all = (same y ∙ all.0, others_fail eq k ks same all.1)

  -- if no two keys are equal, none that is left passes
  pub removed_all : (eq : K → K → Bool) → ((x y : K) → test x ≡ true → test y ≡ eq x y) → (es : List (K × ℕ))
      → IsDistinct eq (keys_of es) → (e : K × ℕ) → Contains (remove_entry test es) e → test e.0 ≡ false
  unfolding IsDistinct
  removed_all eq one [] distinct e held = absurd (Contains-nil e held)
  removed_all eq one (f ∷ es) distinct e held =
      (elim (test f.0) as (λ b. test f.0 ≡ b → Contains (cond b es (f ∷ remove_entry test es)) e → test e.0 ≡ false) [
        | true ↦ λ is h. all_fail e es (others_fail eq f.0 (keys_of es) (λ y. one f.0 y is) distinct.0) h
        | false ↦ λ is h. elim (Contains-cons f (remove_entry test es) e h) [
          | inl same ↦ subst (λ (g : K × ℕ). test g.0 ≡ false) same is
          | inr later ↦ removed_all eq one es distinct.1 e later
        ]
      ]) refl held

  -- a filter that leaves out each one that passes gives the same after one is removed
  pub filter_removed : (keeps : K × ℕ → Bool) → ((e : K × ℕ) → test e.0 ≡ true → keeps e ≡ false) → (es : List (K × ℕ))
      → filter keeps (remove_entry test es) ≡ filter keeps es
  filter_removed keeps apart [] = refl
  filter_removed keeps apart (e ∷ es) =
      (elim (test e.0) as (λ b. test e.0 ≡ b → filter keeps (cond b es (e ∷ remove_entry test es)) ≡ cond (keeps e) (e ∷ filter keeps es) (filter keeps es)) [
        | true ↦ λ is. ap (λ b. cond b (e ∷ filter keeps es) (filter keeps es)) (sym (apart e is))
        | false ↦ λ is. ap (λ rest. cond (keeps e) (e ∷ rest) rest) (filter_removed keeps apart es)
      ]) refl

module _ {X : Type 0} (p : X → Bool) where
  -- if none passes, all fail
  pub filter_none : (xs : List X) → find p xs ≡ None → filter (λ x. not (p x)) xs ≡ xs
  filter_none [] none = refl
  filter_none (x ∷ xs) none =
      elim (p x) as (λ b. cond b (Some x) (find p xs) ≡ None → cond (not b) (x ∷ filter (λ y. not (p y)) xs) (filter (λ y. not (p y)) xs) ≡ x ∷ xs) [
        | true ↦ λ h. absurd (cc)
        | false ↦ λ h. ap (λ rest. x ∷ rest) (filter_none xs h)
      ] none

  -- the first that passes is there, and passes
  pub found_there : (xs : List X) (x : X) → find p xs ≡ Some x → Contains xs x × (p x ≡ true)
  found_there [] x found = absurd (cc)
  found_there (y ∷ xs) x found =
      (elim (p y) as (λ b. p y ≡ b → cond b (Some y) (find p xs) ≡ Some x → Contains (y ∷ xs) x × (p x ≡ true)) [
        | true ↦ λ is h. let same : y ≡ x = cc in (subst (Contains (y ∷ xs)) same (Contains-head y xs), subst (λ z. p z ≡ true) same is)
        | false ↦ λ is h. let on = found_there xs x h in (Contains-tail y xs x on.0, on.1)
      ]) refl found

  pub filter_contains : (xs : List X) (x : X) → Contains (filter p xs) x → Contains xs x × (p x ≡ true)
  filter_contains [] x held = absurd (Contains-nil x held)
  filter_contains (y ∷ xs) x held =
      (elim (p y) as (λ b. p y ≡ b → Contains (cond b (y ∷ filter p xs) (filter p xs)) x → Contains (y ∷ xs) x × (p x ≡ true)) [
        | true ↦ λ is h. elim (Contains-cons y (filter p xs) x h) [
          | inl same ↦ (subst (Contains (y ∷ xs)) same (Contains-head y xs), subst (λ z. p z ≡ true) same is)
          | inr later ↦ let on = filter_contains xs x later in (Contains-tail y xs x on.0, on.1)
        ]
        | false ↦ λ is h. let on = filter_contains xs x h in (Contains-tail y xs x on.0, on.1)
      ]) refl held

module _ {K : Type 0} (test : K → Bool) where
  -- a pair that passes is found by its key
  pub lookup_there : (es : List (K × ℕ)) (e : K × ℕ) → Contains es e → test e.0 ≡ true → (x : K × ℕ) × (lookup_entry test es ≡ Some x)
  lookup_there [] e held is = absurd (Contains-nil e held)
  lookup_there (f ∷ es) e held is =
      (elim (test f.0) as (λ b. test f.0 ≡ b → (x : K × ℕ) × (cond b (Some f) (lookup_entry test es) ≡ Some x)) [
        | true ↦ λ passes. (f, refl)
        | false ↦ λ fails. elim (Contains-cons f es e held) [
          | inl same ↦ let bad : false ≡ true = sym fails ∙ ap (λ (g : K × ℕ). test g.0) same ∙ is in absurd (cc)
          | inr later ↦ lookup_there es e later is
        ]
      ]) refl
