-- The notes of callers among the entries of all.
use Rattle.std.proofs.Common.{◌≡◌, ℕ, suc, ◌+◌, ◌<◌, List, [], ◌∷◌, ◌++◌, length, refl, ap, ap₂, sym, ◌∙◌, subst, arith, append_assoc}
use Rattle.call_history.specs.Entries.{by}
use Rattle.mount_model.specs.Port.{PlacedCalls}
use Rattle.script_lang.specs.declared.commands.Section.{Section}
use Rattle.reply_text.specs.declared.notes.Note.{Note}
use Rattle.fsc_session.specs.Session.{notes_of_section}
use Rattle.fsc_session.specs.ScriptRun.{notes_by}

-- entries that are alike for each of the callers have the same notes
pub notes_by-alike : (seed : List ℕ) (k : ℕ) (sections : List Section) (xs ys : PlacedCalls)
    → ((i : ℕ) → i < length sections → by (k + i) xs ≡ by (k + i) ys) → notes_by seed k sections xs ≡ notes_by seed k sections ys
notes_by-alike seed k [] xs ys same = refl
notes_by-alike seed k (section ∷ more) xs ys same =
    let own : k + 0 ≡ k = omega arith in
    ap₂ (λ (a b : List Note). a ++ b)
    (ap (notes_of_section seed k section) (subst (λ (w : ℕ). by w xs ≡ by w ys) own (same 0 (omega arith))))
    (notes_by-alike seed (k + 1) more xs ys (λ i below. let next : k + suc i ≡ k + 1 + i = omega arith in
    subst (λ (w : ℕ). by w xs ≡ by w ys) next (same (suc i) (omega (arith, below)))))

-- the notes of some callers, and after them those of the others
pub notes_by-append : (seed : List ℕ) (k : ℕ) (first others : List Section) (xs : PlacedCalls)
    → notes_by seed k (first ++ others) xs ≡ notes_by seed k first xs ++ notes_by seed (k + length first) others xs
notes_by-append seed k [] others xs = let none : k ≡ k + 0 = omega arith in ap (λ (w : ℕ). notes_by seed w others xs) none
notes_by-append seed k (section ∷ more) others xs =
    let next : k + 1 + length more ≡ k + suc (length more) = omega arith in
    ap (λ (notes : List Note). notes_of_section seed k section (by k xs) ++ notes) (notes_by-append seed (k + 1) more others xs)
    ∙ sym (append_assoc (notes_of_section seed k section (by k xs)) (notes_by seed (k + 1) more xs) (notes_by seed (k + 1 + length more) others xs))
    ∙ ap (λ (w : ℕ). notes_by seed k (section ∷ more) xs ++ notes_by seed w others xs) next
