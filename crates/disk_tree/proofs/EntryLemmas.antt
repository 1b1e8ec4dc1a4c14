-- The entry of a name is removed from a list.
use Rattle.std.proofs.Common.{◌≡◌, Bool, true, false, cond, Some, None, List, [], ◌∷◌, ◌++◌, refl, ap}
use Rattle.std.specs.Map.{lookup, remove_entry}

-- a name that is not there
pub removal_absent : {K X : Type 0} (test : K → Bool) (es : List (K × X)) → lookup test es ≡ None → remove_entry test es ≡ es
removal_absent test [] absent = refl
removal_absent test (e ∷ es) absent =
    elim (test e.0) as (λ b. cond b (Some e.1) (lookup test es) ≡ None → cond b es (e ∷ remove_entry test es) ≡ e ∷ es) [
      | true ↦ λ h. absurd (cc)
      | false ↦ λ h. ap (λ xs. e ∷ xs) (removal_absent test es h)
    ] absent

-- a name that is there is found before the later entries
pub removal_front : {K X : Type 0} (test : K → Bool) (es fs : List (K × X)) (x : X) → lookup test es ≡ Some x → remove_entry test (es ++ fs) ≡ remove_entry test es ++ fs
removal_front test [] fs x found = absurd (cc)
removal_front test (e ∷ es) fs x found =
    elim (test e.0) as (λ b. cond b (Some e.1) (lookup test es) ≡ Some x → cond b (es ++ fs) (e ∷ remove_entry test (es ++ fs)) ≡ cond b es (e ∷ remove_entry test es) ++ fs) [
      | true ↦ λ h. refl
      | false ↦ λ h. ap (λ xs. e ∷ xs) (removal_front test es fs x h)
    ] found
