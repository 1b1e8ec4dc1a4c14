-- Exactly one handle is removed when one is closed.
use Rattle.std.proofs.Common.{◌≡◌, ℕ, ◌≤◌, Bool, true, false, cond, not, [], ◌∷◌, ◌++◌, Option, Some, None, IfSome, option_map, inl, inr, refl, sym, ap, ◌∙◌, arith}
use Rattle.std.specs.List.{count_by, find, filter, list_any}
use Rattle.std.proofs.lemmas.Bool.{cases_Bool, or_parts}
use Rattle.std.proofs.lemmas.List.Sums.{sum_by-cons, sum_by_push}
use Rattle.mount_model.specs.declared.handle.Handle.{Handle}
use Rattle.mount_model.specs.PlainMount.{HandleList}
use Rattle.mount_model.specs.OpenHandles.{is_handle, node_of, without_handle}
use Rattle.mount_state.specs.Handles.{users, LosesOne}

abbrev counts : (Handle → Bool) → Handle → ℕ
counts p h = cond (p h) 1 0

-- ---- how many handles pass a test

none_counted : (p : Handle → Bool) (hs : HandleList) → list_any p hs ≡ false → count_by p hs ≤ 0
none_counted p [] none = omega arith
none_counted p (h ∷ hs) none =
    let parts = or_parts (p h) (list_any p hs) none in
    let rest = none_counted p hs parts.1 in
    let whole = sum_by-cons (counts p) h hs in
    let out : counts p h ≡ 0 = ap (λ b. cond b 1 0) parts.0 in
    omega arith

-- a handle comes that none is like
pub single_put : (p : Handle → Bool) (hs : HandleList) (new : Handle) → (p new ≡ true → list_any p hs ≡ false)
    → count_by p hs ≤ 1 → count_by p (hs ++ new ∷ []) ≤ 1
single_put p hs new fresh single =
    let whole = sum_by_push (counts p) hs new in
    elim (cases_Bool (p new)) [
      | inl it ↦
          let one : counts p new ≡ 1 = ap (λ b. cond b 1 0) it in
          let none = none_counted p hs (fresh it) in
          omega arith
      | inr other ↦ let none : counts p new ≡ 0 = ap (λ b. cond b 1 0) other in omega arith
    ]

-- of what is left no more pass
pub fewer_left : (keep p : Handle → Bool) (hs : HandleList) → count_by p (filter keep hs) ≤ count_by p hs
fewer_left keep p [] = omega arith
fewer_left keep p (h ∷ hs) =
    let rest = fewer_left keep p hs in
    let whole = sum_by-cons (counts p) h hs in
    elim (cases_Bool (keep h)) [
      | inl kept ↦
          let left = sum_by-cons (counts p) h (filter keep hs) in
          let is : count_by p (filter keep (h ∷ hs)) ≡ count_by p (h ∷ filter keep hs) =
          ap (λ b. count_by p (cond b (h ∷ filter keep hs) (filter keep hs))) kept in
          omega arith
      | inr lost ↦
          let is : count_by p (filter keep (h ∷ hs)) ≡ count_by p (filter keep hs) =
          ap (λ b. count_by p (cond b (h ∷ filter keep hs) (filter keep hs))) lost in
          omega arith
    ]

-- if none passes, none is removed
none_lost : (p : Handle → Bool) (hs : HandleList) → count_by p hs ≤ 0 → filter (λ h. not (p h)) hs ≡ hs
none_lost p [] few = refl
none_lost p (h ∷ hs) few =
    let whole = sum_by-cons (counts p) h hs in
    elim (cases_Bool (p h)) [
      | inl it ↦ let one : counts p h ≡ 1 = ap (λ b. cond b 1 0) it in absurd (omega arith)
      | inr other ↦
          let none : counts p h ≡ 0 = ap (λ b. cond b 1 0) other in
          ap (λ b. cond (not b) (h ∷ filter (λ g. not (p g)) hs) (filter (λ g. not (p g)) hs)) other
          ∙ ap (λ (rest : HandleList). h ∷ rest) (none_lost p hs (omega arith))
    ]

-- ---- one goes

abbrev on : (ℕ → Bool) → Handle → ℕ
on test h = cond (test h.node) 1 0

some_same : (a b : ℕ) → Some a ≡ Some b → a ≡ b
some_same a b is = cc

module _ (caller number : ℕ) where
  loses : (hs : HandleList) → count_by (is_handle caller number) hs ≤ 1 → (n : ℕ) → node_of hs caller number ≡ Some n
      → LosesOne hs (without_handle caller number hs) n
  loses [] single n it test = let none : None ≡ Some n = it in absurd (cc)
  loses (h ∷ hs) single n it test =
      let counted = sum_by-cons (counts (is_handle caller number)) h hs in
      let whole = sum_by-cons (on test) h hs in
      elim (cases_Bool (is_handle caller number h)) [
        | inl is ↦
            let one : counts (is_handle caller number) h ≡ 1 = ap (λ b. cond b 1 0) is in
            let node : h.node ≡ n = some_same h.node n
            (sym (ap (λ b. option_map (λ (g : Handle). g.node) (cond b (Some h) (find (is_handle caller number) hs))) is) ∙ it) in
            let left : users test (without_handle caller number (h ∷ hs)) ≡ users test hs =
            ap (λ b. users test (cond (not b) (h ∷ without_handle caller number hs) (without_handle caller number hs))) is
            ∙ ap (users test) (none_lost (is_handle caller number) hs (omega arith)) in
            let gone : on test h ≡ cond (test n) 1 0 = ap (λ x. cond (test x) 1 0) node in
            omega arith
        | inr other ↦
            let none : counts (is_handle caller number) h ≡ 0 = ap (λ b. cond b 1 0) other in
            let rest : node_of hs caller number ≡ Some n =
            sym (ap (λ b. option_map (λ (g : Handle). g.node) (cond b (Some h) (find (is_handle caller number) hs))) other) ∙ it in
            let behind = loses hs (omega arith) n rest test in
            let stays = sum_by-cons (on test) h (without_handle caller number hs) in
            let left : users test (without_handle caller number (h ∷ hs)) ≡ users test (h ∷ without_handle caller number hs) =
            ap (λ b. users test (cond (not b) (h ∷ without_handle caller number hs) (without_handle caller number hs))) other in
            omega arith
      ]

  pub loses_one : (hs : HandleList) → count_by (is_handle caller number) hs ≤ 1
      → IfSome (node_of hs caller number) (LosesOne hs (without_handle caller number hs))
  loses_one hs single = at (node_of hs caller number) refl
    where
      at : (o : Option ℕ) → node_of hs caller number ≡ o → IfSome o (LosesOne hs (without_handle caller number hs))
      at None is = tt
      at (Some n) is = loses hs single n is
