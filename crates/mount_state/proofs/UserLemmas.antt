-- Handles on nodes that pass a test: whether there are some, and how many.
use Rattle.std.proofs.Common.{◌≡◌, ℕ, ◌<◌, ◌≤◌, Bool, true, false, cond, ◌||◌, [], ◌∷◌, eqb, nat_lt, inl, inr, refl, sym, ap, ◌∙◌, arith}
use Rattle.std.specs.List.{list_any}
use Rattle.std.proofs.lemmas.Bool.{cases_Bool, cases_lt, or_cases, true≢false, eqb-true, eq-eqb, lt-ltb, le-ltb}
use Rattle.std.proofs.lemmas.List.Sums.{sum_by-cons}
use Rattle.mount_model.specs.declared.handle.Handle.{Handle}
use Rattle.mount_model.specs.PlainMount.{HandleList}
use Rattle.mount_model.specs.OpenHandles.{has_handle}
use Rattle.mount_state.specs.Handles.{users, handles_on}

-- some handle is on a node that passes
abbrev pub some_on : (ℕ → Bool) → HandleList → Bool
some_on test live = list_any (λ h. test h.node) live

or_right : (b c : Bool) → c ≡ true → (b || c) ≡ true
or_right true c is = refl
or_right false c is = is

-- such a handle's node
pub one_on : (test : ℕ → Bool) (live : HandleList) → some_on test live ≡ true → (n : ℕ) × ((has_handle live n ≡ true) × (test n ≡ true))
one_on test [] is = absurd (true≢false (sym is))
one_on test (h ∷ hs) is = elim (or_cases (test h.node) (some_on test hs) is) [
  | inl it ↦ (h.node, (ap (λ b. b || has_handle hs h.node) (eq-eqb h.node h.node refl), it))
  | inr rest ↦
      let one = one_on test hs rest in
      (one.0, (or_right (eqb h.node one.0) (has_handle hs one.0) one.1.0, one.1.1))
]

-- a node with a handle that passes
pub some_from : (test : ℕ → Bool) (live : HandleList) (n : ℕ) → has_handle live n ≡ true → test n ≡ true → some_on test live ≡ true
some_from test [] n held passes = held
some_from test (h ∷ hs) n held passes = elim (or_cases (eqb h.node n) (has_handle hs n) held) [
  | inl here ↦ ap (λ b. b || some_on test hs) (ap test (eqb-true h.node n here) ∙ passes)
  | inr rest ↦ or_right (test h.node) (some_on test hs) (some_from test hs n rest passes)
]

abbrev counts_one : (ℕ → Bool) → Handle → ℕ
counts_one test h = cond (test h.node) 1 0

pub users_from : (test : ℕ → Bool) (live : HandleList) → some_on test live ≡ true → 0 < users test live
users_from test [] is = absurd (true≢false (sym is))
users_from test (h ∷ hs) is =
    let whole = sum_by-cons (counts_one test) h hs in
    elim (or_cases (test h.node) (some_on test hs) is) [
      | inl it ↦ let one : counts_one test h ≡ 1 = ap (λ b. cond b 1 0) it in omega arith
      | inr rest ↦ let more = users_from test hs rest in omega arith
    ]

pub some_user : (test : ℕ → Bool) (live : HandleList) → 0 < users test live → some_on test live ≡ true
some_user test [] more = absurd (omega arith)
some_user test (h ∷ hs) more = elim (cases_Bool (test h.node)) [
  | inl it ↦ ap (λ b. b || some_on test hs) it
  | inr other ↦
      let whole = sum_by-cons (counts_one test) h hs in
      let none : counts_one test h ≡ 0 = ap (λ b. cond b 1 0) other in
      or_right (test h.node) (some_on test hs) (some_user test hs (omega arith))
]

-- tests that agree on every node find alike
pub some_alike : (p q : ℕ → Bool) (live : HandleList) → ((n : ℕ) → p n ≡ q n) → some_on p live ≡ some_on q live
some_alike p q [] same = refl
some_alike p q (h ∷ hs) same = λ i. same h.node i || some_alike p q hs same i

-- the pins of a node determine whether it has a handle
pub pins_tell : (live : HandleList) (node pins : ℕ) → pins ≡ handles_on live node → nat_lt 0 pins ≡ has_handle live node
pins_tell live node pins count = elim (cases_Bool (has_handle live node)) [
  | inl held ↦
      let some = users_from (λ n. eqb n node) live held in
      lt-ltb 0 pins (omega arith) ∙ sym held
  | inr free ↦ le-ltb 0 pins (none free) ∙ sym free
]
  where
    none : has_handle live node ≡ false → pins ≤ 0
    none free = elim (cases_lt 0 pins) [
      | inl more ↦ absurd (true≢false (sym (some_user (λ n. eqb n node) live (omega arith)) ∙ free))
      | inr few ↦ few
    ]
