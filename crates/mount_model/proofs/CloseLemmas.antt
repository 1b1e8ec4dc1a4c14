-- Handles stay well formed after one is closed.
use Rattle.std.proofs.Common.{◌≡◌, ◌≢◌, ℕ, ◌≤◌, Bool, true, false, cond, not, ◌||◌, [], ◌∷◌, length, eqb, Some, option_map, is_some, inl, inr, refl, sym, ap, subst, ◌∙◌, arith}
use Rattle.std.specs.List.{list_any, find, filter, IsDistinct, AllByRecursion}
use Rattle.std.proofs.lemmas.Bool.{cases_eq, cases_Bool, or_cases, or_parts, true≢false, ne_eqb}
use Rattle.number_map.specs.Numbered.{NumberedValues, get}
use Rattle.number_map.proofs.NumberedLemmas.{remove_here, remove_other}
use Rattle.plain_tree.specs.Nodes.{Nodes}
use Rattle.plain_tree.specs.NodesByNumber.{is_named_in, is_named}
use Rattle.plain_tree.specs.Changes.{without_node}
use Rattle.mount_model.specs.declared.handle.Handle.{Handle}
use Rattle.mount_model.specs.PlainMount.{HandleList}
use Rattle.mount_model.specs.OpenHandles.{is_handle, node_of, has_handle, without_handle}
use Rattle.mount_model.specs.CloseAnswers.{nodes_after_close}
use Rattle.mount_model.specs.SoundHandles.{is_openable, is_same_handle, HasHandles}
use Rattle.mount_model.proofs.HandlesWell.{openable_in}
use Rattle.mount_model.proofs.OpenLemmas.{same_caller}

-- what is left of a list passes no test that nothing in it passed
some_left : (keep p : Handle → Bool) (hs : HandleList) → list_any p (filter keep hs) ≡ true → list_any p hs ≡ true
some_left keep p [] is = is
some_left keep p (h ∷ hs) is =
    elim (cases_Bool (keep h)) [
      | inl kept ↦
          elim (or_cases (p h) (list_any p (filter keep hs)) (sym (ap (λ b. list_any p (cond b (h ∷ filter keep hs) (filter keep hs))) kept) ∙ is)) [
            | inl it ↦ ap (λ b. b || list_any p hs) it
            | inr rest ↦ last (p h) (some_left keep p hs rest)
          ]
      | inr lost ↦ last (p h) (some_left keep p hs (sym (ap (λ b. list_any p (cond b (h ∷ filter keep hs) (filter keep hs))) lost) ∙ is))
    ]
  where
    last : (b : Bool) → list_any p hs ≡ true → (b || list_any p hs) ≡ true
    last true rest = refl
    last false rest = rest

all_remaining : (P : Handle → Type 0) (keep : Handle → Bool) (hs : HandleList) → AllByRecursion P hs → AllByRecursion P (filter keep hs)
all_remaining P keep [] all = tt
all_remaining P keep (h ∷ hs) all = elim (keep h) as (λ b. AllByRecursion P (cond b (h ∷ filter keep hs) (filter keep hs))) [
  | true ↦ (all.0, all_remaining P keep hs all.1)
  | false ↦ all_remaining P keep hs all.1
]

left_distinct : (keep : Handle → Bool) (hs : HandleList) → IsDistinct is_same_handle hs → IsDistinct is_same_handle (filter keep hs)
unfolding IsDistinct
left_distinct keep [] distinct = tt
left_distinct keep (h ∷ hs) distinct = elim (keep h) as (λ b. IsDistinct is_same_handle (cond b (h ∷ filter keep hs) (filter keep hs))) [
  | true ↦ (all_remaining (λ y. is_same_handle h y ≡ false) keep hs distinct.0, left_distinct keep hs distinct.1)
  | false ↦ left_distinct keep hs distinct.1
]

left_length : (keep : Handle → Bool) (hs : HandleList) → length (filter keep hs) ≤ length hs
left_length keep [] = omega arith
left_length keep (h ∷ hs) = let rest = left_length keep hs in elim (keep h) as (λ b. length (cond b (h ∷ filter keep hs) (filter keep hs)) ≤ length (h ∷ hs)) [
  | true ↦ omega arith
  | false ↦ omega arith
]

-- if no handle is the one, all are left
none_lost : (caller number : ℕ) (hs : HandleList) → AllByRecursion (λ h. is_handle caller number h ≡ false) hs → without_handle caller number hs ≡ hs
none_lost caller number [] none = refl
none_lost caller number (h ∷ hs) none =
    ap (λ b. cond (not b) (h ∷ without_handle caller number hs) (without_handle caller number hs)) none.0
    ∙ ap (λ rest. h ∷ rest) (none_lost caller number hs none.1)

-- each handle on another node is left
other_left : (caller number n q : ℕ) (hs : HandleList) → IsDistinct is_same_handle hs → node_of hs caller number ≡ Some n → (q ≢ n)
    → has_handle hs q ≡ true → has_handle (without_handle caller number hs) q ≡ true
unfolding IsDistinct
other_left caller number n q [] distinct it differ held = absurd (true≢false (sym held))
other_left caller number n q (h ∷ hs) distinct it differ held =
    elim (cases_Bool (is_handle caller number h)) [
      | inl is ↦
          let same = same_caller caller number h is in
          let here : Some h.node ≡ Some n = sym (ap (λ b. option_map (λ g. g.node) (cond b (Some h) (find (is_handle caller number) hs))) is) ∙ it in
          let node : h.node ≡ n = some_same h.node n here in
          let passed : eqb h.node q ≡ false = ne_eqb h.node q (λ e. differ (sym e ∙ node)) in
          let behind : has_handle hs q ≡ true = sym (ap (λ b. b || has_handle hs q) passed) ∙ held in
          let alone : AllByRecursion (λ y. is_handle caller number y ≡ false) hs
          = subst (λ c. AllByRecursion (λ y. is_handle c number y ≡ false) hs) same.0
          (subst (λ k. AllByRecursion (λ y. is_handle h.caller k y ≡ false) hs) same.1 distinct.0) in
          ap (λ b. has_handle (cond (not b) (h ∷ without_handle caller number hs) (without_handle caller number hs)) q) is
          ∙ ap (λ rest. has_handle rest q) (none_lost caller number hs alone) ∙ behind
      | inr other ↦
          let rest : node_of hs caller number ≡ Some n = sym (ap (λ b. option_map (λ g. g.node) (cond b (Some h) (find (is_handle caller number) hs))) other) ∙ it in
          ap (λ b. has_handle (cond (not b) (h ∷ without_handle caller number hs) (without_handle caller number hs)) q) other
          ∙ elim (or_cases (eqb h.node q) (has_handle hs q) held) [
            | inl on ↦ ap (λ b. b || has_handle (without_handle caller number hs) q) on
            | inr behind ↦ last (eqb h.node q) (other_left caller number n q hs distinct.1 rest differ behind)
          ]
    ]
  where
    some_same : (a b : ℕ) → Some a ≡ Some b → a ≡ b
    some_same a b is = cc

    last : (b : Bool) → has_handle (without_handle caller number hs) q ≡ true → (b || has_handle (without_handle caller number hs) q) ≡ true
    last true rest = refl
    last false rest = rest

module _ (nodes : Nodes) (handles : HandleList) (opened : NumberedValues ℕ) (well : HasHandles nodes handles opened) (caller number n : ℕ) (it : node_of handles caller number ≡ Some n) where
  abbrev left : HandleList
  left = without_handle caller number handles

  abbrev keep : Handle → Bool
  keep h = not (is_handle caller number h)

  -- what doesn't depend on the nodes
  left_on : (after : Nodes) → ((q : ℕ) → has_handle left q ≡ true → is_openable after q ≡ true)
      → ((q : ℕ) → is_some (get after q) ≡ true → is_named after q ≡ false → has_handle left q ≡ true) → HasHandles after left opened
  left_on after on nameless = record {
    on = on;
    nameless = nameless;
    numbered = λ c j live. well.numbered c j (some_left keep (is_handle c j) handles live);
    distinct = left_distinct keep handles well.distinct;
    few = let fewer = left_length keep handles in let few = well.few in omega arith;
    few_opens = well.few_opens;
  }

  was_held : (q : ℕ) → has_handle left q ≡ true → has_handle handles q ≡ true
  was_held q = some_left keep (λ h. eqb h.node q) handles

  stays_held : (q : ℕ) → (q ≢ n) → has_handle handles q ≡ true → has_handle left q ≡ true
  stays_held q = other_left caller number n q handles well.distinct it

  -- the node has a name, or another handle is on it
  stays : (is_named nodes n || has_handle left n) ≡ true → HasHandles nodes left opened
  stays held = left_on nodes
      (λ q on. well.on q (was_held q on))
      (λ q there none. elim (cases_eq q n) [
        | inl is ↦ elim (or_cases (is_named nodes n) (has_handle left n) held) [
          | inl named ↦ absurd (true≢false (sym named ∙ ap (is_named nodes) (sym is) ∙ none))
          | inr other ↦ ap (has_handle left) is ∙ other
        ]
        | inr differ ↦ stays_held q differ (well.nameless q there none)
      ])

  goes : (is_named nodes n || has_handle left n) ≡ false → HasHandles (without_node nodes n) left opened
  unfolding openable_in
  goes none_left =
      let free : has_handle left n ≡ false = (or_parts (is_named nodes n) (has_handle left n) none_left).1 in
      left_on (without_node nodes n)
      (λ q on.
      let differ : q ≢ n = λ same. true≢false (sym on ∙ ap (has_handle left) same ∙ free) in
      ap openable_in (remove_other nodes n q differ) ∙ well.on q (was_held q on))
      (λ q there none. elim (cases_eq q n) [
        | inl is ↦ absurd (true≢false (sym there ∙ ap (λ y. is_some (get (without_node nodes n) y)) is ∙ ap (λ o. is_some o) (remove_here nodes n)))
        | inr differ ↦
            let same : get (without_node nodes n) q ≡ get nodes q = remove_other nodes n q differ in
            stays_held q differ (well.nameless q (sym (ap (λ o. is_some o) same) ∙ there) (sym (ap is_named_in same) ∙ none))
      ])

  pub closed_well : HasHandles (nodes_after_close left nodes n) left opened
  closed_well = by_case (is_named nodes n || has_handle left n) refl
    where
      by_case : (b : Bool) → (is_named nodes n || has_handle left n) ≡ b → HasHandles (cond b nodes (without_node nodes n)) left opened
      by_case true held = stays held
      by_case false free = goes free
