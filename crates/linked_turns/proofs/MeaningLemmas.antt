-- The text of a run on two mounts has one meaning: a caller's calls are those that its section asks for
-- next, and both histories determine what became of each.
use Rattle.std.proofs.Common.{◌≡◌, ℕ, Bool, true, false, List, [], Option, Some, None, refl, ap, ap₂, sym, ◌∙◌, subst}
use Rattle.std.specs.Prelude.{slice_get}
use Rattle.call_history.specs.Entries.{by, entries_by, entries_with_places}
use Rattle.call_history.specs.Placed.{entries_of}
use Rattle.call_history.proofs.Ordering.{merged_by_callers, merged-numbered}
use Rattle.mount_model.specs.History.{History}
use Rattle.mount_model.specs.Port.{PlacedCalls}
use Rattle.script_lang.specs.declared.commands.Section.{Section}
use Rattle.reply_text.specs.declared.notes.Note.{Note}
use Rattle.fsc_commands.specs.Steps.{Steps, Reaches}
use Rattle.fsc_commands.specs.Steps.Steps.{Done}
use Rattle.fsc_session.specs.Session.{section_steps}
use Rattle.fsc_session.specs.ScriptRun.{IsRunOfCaller, notes_by}
use Rattle.mount_links.specs.declared.step.LinkStep.{LinkStep}
use Rattle.mount_links.specs.Linked.{own_parts, far_parts}
use Rattle.mount_links.specs.LinkCalls.{load_call}
use Rattle.linked_turns.specs.Parts.{HasParts, is_even}
use Rattle.linked_turns.specs.LinkedMeaning.{LinkedLogsHaveOneMeaning}
use Rattle.linked_turns.proofs.HeadingLemmas.{both_logs_tell}
use Rattle.linked_turns.proofs.LineLemmas.{lines, lines_by, same_calls}
use Rattle.linked_turns.proofs.SameSteps.{same_odd}

-- ---- each caller

-- what a caller asks for
abbrev program : List ℕ → ℕ → Option Section → Steps (List Note)
program seed c None = Done []
program seed c (Some section) = section_steps seed c section

runs : (seed : List ℕ) (c : ℕ) (at : Option Section) (placed : PlacedCalls) → IsRunOfCaller seed c at placed
    → (rest : Steps (List Note)) × Reaches (program seed c at) (entries_of placed) rest
runs seed c None placed run = (Done [], subst (λ (l : PlacedCalls). Reaches (program seed c None) (entries_of l) (Done [])) (sym run) refl)
runs seed c (Some section) placed run = (Done run.0, run.1)

record SameParts (xs ys e f o p : PlacedCalls) : Type 0 where
  calls : xs ≡ ys
  on_even : e ≡ f
  on_odd : o ≡ p

same_parts : {A : Type 0} (steps rest last : Steps A) (b : Bool) (ls ks : List LinkStep) (xs ys e f o p : PlacedCalls)
    → Reaches steps (entries_of xs) rest → Reaches steps (entries_of ys) last → HasParts b ls xs e o → HasParts b ks ys f p
    → lines e ≡ lines f → lines o ≡ lines p → SameParts xs ys e f o p
same_parts steps rest last true ls ks xs ys e f o p so to has had even odd =
    let calls = same_calls steps rest last xs ys so to (ap lines (sym has.0) ∙ even ∙ ap lines had.0) in
    record { calls = calls; on_even = has.0 ∙ calls ∙ sym had.0; on_odd = has.1 ∙ sym had.1 }
same_parts steps rest last false ls ks xs ys e f o p so to has had even odd =
    let both = same_odd steps rest last ls xs ks ys so to has.0 had.0
    (ap lines (sym has.2) ∙ odd ∙ ap lines had.2) (ap lines (sym has.1) ∙ even ∙ ap lines had.1) in record {
      calls = both.1;
      on_even = has.1 ∙ ap₂ (λ (s : List LinkStep) (l : PlacedCalls). far_parts s l) both.0 both.1 ∙ sym had.1;
      on_odd = has.2 ∙ ap₂ (λ (s : List LinkStep) (l : PlacedCalls). own_parts load_call s l) both.0 both.1 ∙ sym had.2;
    }

-- ---- the law

-- histories in which each caller has the same entries are the same
same_history : (g h : History) → ((c : ℕ) → entries_by c g ≡ entries_by c h) → g ≡ h
same_history g h each = sym (merged-numbered g) ∙ merged_by_callers h (entries_with_places 0 g) each

pub one_meaning : LinkedLogsHaveOneMeaning
one_meaning seed script g h so to same =
    let said = both_logs_tell g.even g.odd h.even h.odd (notes_by seed 0 script g.told) (notes_by seed 0 script h.told)
    (record { short = so.short_even; ranged = so.ranged_even }) (record { short = so.short_odd; ranged = so.ranged_odd })
    (record { short = to.short_even; ranged = to.ranged_even }) (record { short = to.short_odd; ranged = to.ranged_odd }) same in
    let each : (c : ℕ) → SameParts (by c g.told) (by c h.told) (entries_by c g.even) (entries_by c h.even) (entries_by c g.odd) (entries_by c h.odd) =
    λ c.
    let one = runs seed c (slice_get script c) (by c g.told) (so.callers c) in
    let two = runs seed c (slice_get script c) (by c h.told) (to.callers c) in
    same_parts (program seed c (slice_get script c)) one.0 two.0 (is_even c) (so.parts c).0 (to.parts c).0 (by c g.told) (by c h.told)
    (entries_by c g.even) (entries_by c h.even) (entries_by c g.odd) (entries_by c h.odd) one.1 two.1 (so.parts c).1 (to.parts c).1
    (lines_by c 0 g.even h.even said.0) (lines_by c 0 g.odd h.odd said.1) in record {
      same_even = same_history g.even h.even (λ c. (each c).on_even);
      same_odd = same_history g.odd h.odd (λ c. (each c).on_odd);
      same_calls = λ c. (each c).calls;
    }
