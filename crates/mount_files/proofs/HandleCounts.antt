-- Handles on nodes, and pins of nodes, when a handle comes and when one goes.
use Rattle.std.proofs.Common.{◌≡◌, ◌≢◌, ℕ, ◌+◌, ◌≤◌, Bool, true, false, cond, ◌||◌, [], ◌∷◌, ◌++◌, length, eqb, nat_lt, unwrap_or, inl, inr, sym, refl, ap, ◌∙◌, arith}
use Rattle.std.specs.List.{filter}
use Rattle.std.proofs.lemmas.Bool.{cases_Bool, eq-eqb, ne_eqb, eqb-true}
use Rattle.std.proofs.lemmas.List.Sums.{sum_by_push}
use Rattle.std.proofs.lemmas.List.Folds.{list_any-append}
use Rattle.number_map.specs.Numbered.{insert, remove}
use Rattle.number_map.proofs.NumberedLemmas.{insert_here, insert_other, remove_here, remove_other}
use Rattle.inode_refs.specs.CacheMaps.{PinMap, pins_at, with_pins}
use Rattle.mount_model.specs.declared.handle.Handle.{Handle}
use Rattle.mount_model.specs.PlainMount.{HandleList}
use Rattle.mount_model.specs.OpenHandles.{has_handle}
use Rattle.mount_state.specs.Handles.{users, handles_on, LosesOne}
use Rattle.mount_state.proofs.UserLemmas.{some_user, users_from, pins_tell}

-- one if it is so, else none
abbrev pub one_if : Bool → ℕ
one_if b = cond b 1 0

-- ---- a handle comes

or_none : (b : Bool) → (b || false) ≡ b
or_none true = refl
or_none false = refl

-- the handles with one more at the end
abbrev pub more : HandleList → Handle → HandleList
more live h = live ++ h ∷ []

module _ (live : HandleList) (h : Handle) where
  pub users_more : (test : ℕ → Bool) → users test (more live h) ≡ users test live + one_if (test h.node)
  users_more test = sum_by_push (λ (g : Handle). cond (test g.node) 1 0) live h

  pub held_more : (n : ℕ) → has_handle (more live h) n ≡ (has_handle live n || eqb h.node n)
  held_more n = list_any-append (λ (g : Handle). eqb g.node n) live (h ∷ []) ∙ ap (λ b. has_handle live n || b) (or_none (eqb h.node n))

pub length_more : (live : HandleList) (h : Handle) → length (more live h) ≡ length live + 1
length_more [] h = refl
length_more (g ∷ live) h = let rest = length_more live h in omega arith

-- ---- a handle goes

pub left_length : (keep : Handle → Bool) (live : HandleList) → length (filter keep live) ≤ length live
left_length keep [] = omega arith
left_length keep (h ∷ live) = let rest = left_length keep live in elim (keep h) as (λ b. length (cond b (h ∷ filter keep live) (filter keep live)) ≤ length (h ∷ live)) [
  | true ↦ omega arith
  | false ↦ omega arith
]

module _ (live left : HandleList) (node : ℕ) (lost : LosesOne live left node) where
  -- as many handles as before are on every other node
  pub same_others : (q : ℕ) → (q ≢ node) → handles_on left q ≡ handles_on live q
  same_others q differ =
      let whole : handles_on left q + one_if (eqb node q) ≡ handles_on live q = lost (λ n. eqb n q) in
      let none : one_if (eqb node q) ≡ 0 = ap one_if (ne_eqb node q (λ e. differ (sym e))) in
      omega arith

  pub one_here : handles_on left node + 1 ≡ handles_on live node
  one_here =
      let whole : handles_on left node + one_if (eqb node node) ≡ handles_on live node = lost (λ n. eqb n node) in
      let one : one_if (eqb node node) ≡ 1 = ap one_if (eq-eqb node node refl) in
      omega arith

  pub held_others : (q : ℕ) → (q ≢ node) → has_handle left q ≡ has_handle live q
  held_others q differ = sym (pins_tell left q (handles_on left q) refl) ∙ ap (nat_lt 0) (same_others q differ) ∙ pins_tell live q (handles_on live q) refl

  -- a node with a handle had one
  pub was_held : (q : ℕ) → has_handle left q ≡ true → has_handle live q ≡ true
  was_held q held =
      let some = users_from (λ n. eqb n q) left held in
      let whole : handles_on left q + one_if (eqb node q) ≡ handles_on live q = lost (λ n. eqb n q) in
      some_user (λ n. eqb n q) live (omega arith)

  pub node_held : has_handle live node ≡ true
  node_held = let one = one_here in some_user (λ n. eqb n node) live (omega arith)

-- ---- pins

module _ (pins : PinMap) (n : ℕ) where
  pub pins_here : (c : ℕ) → pins_at (with_pins pins n c) n ≡ c
  pins_here c = elim (cases_Bool (eqb c 0)) [
    | inl none ↦
        ap (λ b. pins_at (cond b (remove pins n) (insert pins n c)) n) none ∙ ap (λ o. unwrap_or o 0) (remove_here pins n)
        ∙ sym (eqb-true c 0 none)
    | inr some ↦ ap (λ b. pins_at (cond b (remove pins n) (insert pins n c)) n) some ∙ ap (λ o. unwrap_or o 0) (insert_here pins n c)
  ]

  pub pins_other : (c q : ℕ) → (q ≢ n) → pins_at (with_pins pins n c) q ≡ pins_at pins q
  pins_other c q differ = elim (cases_Bool (eqb c 0)) [
    | inl none ↦ ap (λ b. pins_at (cond b (remove pins n) (insert pins n c)) q) none ∙ ap (λ o. unwrap_or o 0) (remove_other pins n q differ)
    | inr some ↦ ap (λ b. pins_at (cond b (remove pins n) (insert pins n c)) q) some ∙ ap (λ o. unwrap_or o 0) (insert_other pins n c q differ)
  ]
