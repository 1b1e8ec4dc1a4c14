-- What a walk caches, part by part.
use Rattle.std.proofs.Common.{◌≡◌, ◌<◌, ℕ, ◌+◌, suc, List, [], ◌∷◌, Contains, ◌⊎◌, ◌-◌, length, take, drop, Option, Some, None, Ok, ok_or, inl, inr, refl, sym, ap, subst, ◌∙◌, arith}
use Rattle.std.specs.Result.{result_ok}
use Rattle.std.specs.List.{slice_get}
use Rattle.std.proofs.Math.Numerals.{add-one}
use Rattle.std.proofs.lemmas.List.Elements.{Contains-append_left, Contains-append_right}
use Rattle.dentry_cache.specs.Names.{Pair, NameList, key_of}
use Rattle.dentry_cache.specs.HeldNames.{HoldsNoMore, HoldsBeside}
use Rattle.plain_tree.specs.Nodes.{Name}
use Rattle.mount_model.specs.PlainMount.{PlainMount}
use Rattle.mount_model.specs.Walk.{PathParts, walk_step}
use Rattle.mount_model.specs.EntryPaths.{parent_parts}
use Rattle.mount_state.specs.PassedEntries.{found_entry, entries_on, passed_entries, CachesOnly, CachesPassed}
use Rattle.mount_state.specs.declared.state.MountState.{MountState}
use Rattle.mount_state.proofs.WalkLemmas.{at_part}

abbrev pub IsWithin : List Pair → List Pair → Type 0
IsWithin some all = (pair : Pair) → Contains some pair → Contains all pair

-- what is cached was cached before, or is one of these
abbrev pub IsOnly : List Pair → List Pair → List Pair → Type 0
IsOnly old new passed = (pair : Pair) → Contains new pair → Contains old pair ⊎ Contains passed pair

-- ---- one name

pub same_names : (old new : NameList) → new ≡ old → HoldsNoMore old new
same_names old new is = λ pair held. subst (λ (n : NameList). Contains n.pairs pair) is held

pub one_cached : (old between new : NameList) (more : Pair) → HoldsNoMore old between → HoldsBeside between new more
    → CachesOnly old new (more ∷ [])
one_cached old between new more fewer beside = λ pair is. elim (beside pair is) [
  | inl was ↦ inl (fewer pair was)
  | inr one ↦ inr (subst (λ p. Contains (more ∷ []) p) (sym one) (Contains-append_left (more ∷ []) [] more (0, omega arith, refl)))
]

-- ---- two changes, one after the other

pub cached_then : (old between new first second all : List Pair) → IsOnly old between first → IsOnly between new second
    → IsWithin first all → IsWithin second all → IsOnly old new all
cached_then old between new first second all before after first_in second_in = λ pair is. elim (after pair is) [
  | inl was ↦ elim (before pair was) [
    | inl old_one ↦ inl old_one
    | inr passed ↦ inr (first_in pair passed)
  ]
  | inr passed ↦ inr (second_in pair passed)
]

pub more_passed : (old new passed all : List Pair) → IsOnly old new passed → IsWithin passed all → IsOnly old new all
more_passed old new passed all only within = λ pair is. elim (only pair is) [
  | inl was ↦ inl was
  | inr one ↦ inr (within pair one)
]

pub none_within : (all : List Pair) → IsWithin [] all
none_within all = λ pair is. absurd (omega (arith, is.1))

-- ---- a walk

module _ (m : PlainMount) (path : PathParts) (count i node : ℕ) (part : Name) (there : Some part ≡ slice_get path i) (below : i < count)
    (next : ℕ) (step : Ok next ≡ walk_step m node part) where
  abbrev rest : PathParts
  rest = drop (i + 1) (take count path)

  entries_go_on : (key_of node part, next) ∷ passed_entries m next rest ≡ passed_entries m node (drop i (take count path))
  entries_go_on =
      ap (λ k. (key_of node part, next) ∷ passed_entries m next (drop k (take count path))) (add-one i)
      ∙ ap (entries_on (λ x. (key_of node part, x) ∷ passed_entries m x (drop (suc i) (take count path)))) step
      ∙ sym (ap (passed_entries m node) (at_part path count i part there below))

  module _ (all : List Pair) (within : IsWithin (passed_entries m node (drop i (take count path))) all) where
    whole_within : IsWithin ((key_of node part, next) ∷ passed_entries m next rest) all
    whole_within = λ pair is. within pair (subst (λ es. Contains es pair) entries_go_on is)

    -- what is left is within the entries of the path
    pub rest_within : IsWithin (passed_entries m next rest) all
    rest_within = λ pair is. whole_within pair (Contains-append_right ((key_of node part, next) ∷ []) (passed_entries m next rest) pair is)

    -- and so is what the step caches
    pub step_cached : (old between new : List Pair) → IsOnly old between all → IsOnly between new (found_entry node part (Some next)) → IsOnly old new all
    step_cached old between new before after =
        cached_then old between new all (found_entry node part (Some next)) all before after (λ pair is. is)
        (λ pair is. whole_within pair (Contains-append_left ((key_of node part, next) ∷ []) (passed_entries m next rest) pair is))

-- the walk to the directory of the last part
pub parent_passed : (old new : MountState) (path : PathParts) (count : ℕ) → count ≡ length path - 1 → CachesPassed old new (take count path)
    → CachesPassed old new (parent_parts path)
parent_passed old new path count is brought = subst (λ (n : ℕ). CachesPassed old new (take n path)) is brought

-- ---- refusals

pub ok_of_or : {E : Type 0} (found : Option ℕ) (refusal : E) → result_ok (ok_or found refusal) ≡ found
ok_of_or (Some n) refusal = refl
ok_of_or None refusal = refl
