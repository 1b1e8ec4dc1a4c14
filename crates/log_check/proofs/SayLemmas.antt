-- The verdict at the end, and what is read from the start on.
use Rattle.std.proofs.Common.{◌≡◌, ℕ, Bool, true, false, List, [], ◌∷◌, ◌++◌, Result, Ok, Err, IfOk, sym, subst}
use Rattle.mount_model.specs.History.{History}
use Rattle.mount_model.specs.Lawful.{IsLawful}
use Rattle.script_lang.specs.declared.commands.Section.{Section}
use Rattle.next_calls.specs.Callers.{CallerView}
use Rattle.log_check.specs.declared.check.Verdict.{Verdict}
use Rattle.log_check.specs.declared.check.Verdict.TheVariants.{Certified, Refused}
use Rattle.log_check.specs.Endings.{IsVerdictHere}
use Rattle.log_check.specs.NextLines.{IsLineRead}
use Rattle.log_check.specs.Reading.{AreCallers, CallersFollow}
use Rattle.log_check.specs.Stops.{IsRead, IsBlocked}
use Rattle.log_check.specs.Verdicts.{IsRefusedAt, IsVerdictOf}
use Rattle.log_check.proofs.EndLemmas.{ends_certified, ends_refused}
use Rattle.log_check.proofs.StopLemmas.{none_read}

ends : (strict : Bool) (seed : List ℕ) (script : List Section) (text : List ℕ) (place : ℕ) (rest : List ℕ) (h : History) (callers : List CallerView) (verdict : Verdict)
    → IsRead strict seed script text place rest h → AreCallers seed script h callers → IsBlocked strict seed script h place rest → IsVerdictHere callers place rest verdict
    → IsVerdictOf strict seed script text verdict
ends strict seed script text place rest h callers Certified read are blocked ended = ends_certified strict seed script text place rest h callers read are ended
ends strict seed script text place rest h callers (Refused at) read are blocked ended =
    subst (λ (n : ℕ). IsRefusedAt strict seed script text n) (sym ended.0) (ends_refused strict seed script text place rest h callers read are blocked ended.1)

abbrev pub Stands : {M : Type 0} → Bool → (History → M → Type 0) → List ℕ → List Section → List ℕ → ℕ → List ℕ → List CallerView → M → Type 0
Stands strict reached_by seed script text place rest callers mount =
    (history : History) × IsRead strict seed script text place rest history × CallersFollow reached_by seed script history callers mount

module _ {M : Type 0} (strict : Bool) (reached_by : History → M → Type 0) where
  pub begins : (seed : List ℕ) (script : List Section) (text : List ℕ) (place : ℕ) (rest : List ℕ) (callers : List CallerView) (mount : M)
      → place ≡ 0 → rest ≡ text → IsLawful [] → reached_by [] mount → AreCallers seed script [] callers → Stands strict reached_by seed script text place rest callers mount
  begins seed script text place rest callers mount first whole lawful reached_of_reply are = (
    [],
    subst (λ (n : ℕ). IsRead strict seed script text n rest []) (sym first) (subst (λ (l : List ℕ). IsRead strict seed script text 0 l []) (sym whole) (none_read strict seed script text lawful)),
    record { reached_of_reply = reached_of_reply; own = are },
  )

  pub goes_on : (seed : List ℕ) (script : List Section) (text : List ℕ) (place place' : ℕ) (rest rest' : List ℕ) (callers callers' : List CallerView) (old new : M)
      → Stands strict reached_by seed script text place rest callers old → IsLineRead strict reached_by seed callers place rest old callers' place' rest' new true
      → Stands strict reached_by seed script text place' rest' callers' new
  goes_on seed script text place place' rest rest' callers callers' old new is_after line =
      let more = line.2 script text is_after.0 is_after.1 is_after.2 in
      (is_after.0 ++ more.0 ∷ [], more.1, more.2)

  pub says : {E : Type 0} (seed : List ℕ) (script : List Section) (text : List ℕ) (place place' : ℕ) (rest rest' : List ℕ) (callers callers' : List CallerView) (old new : M) (r : Result Verdict E)
      → Stands strict reached_by seed script text place rest callers old → IsLineRead strict reached_by seed callers place rest old callers' place' rest' new false
      → IfOk r (IsVerdictHere callers' place' rest') → IfOk r (IsVerdictOf strict seed script text)
  says seed script text place place' rest rest' callers callers' old new (Err e) is_after line ended = ended
  says seed script text place place' rest rest' callers callers' old new (Ok verdict) is_after line ended =
      ends strict seed script text place rest is_after.0 callers verdict is_after.1 is_after.2.own (line.3 script text is_after.0 is_after.1 is_after.2)
      (subst (λ (cs : List CallerView). IsVerdictHere cs place rest verdict) line.0
      (subst (λ (n : ℕ). IsVerdictHere callers' n rest verdict) line.1
      (subst (λ (l : List ℕ). IsVerdictHere callers' place' l verdict) line.2 ended)))
