-- Passes to both mounts that were cut, whose halves ran, and which were joined.
use Rattle.std.proofs.Common.{◌≡◌, ℕ, ◌+◌, ◌*◌, ◌<◌, ◌≤◌, Bool, true, false, List, [], ◌∷◌, ◌++◌, length, refl, sym, ap, ◌∙◌, subst}
use Rattle.turn_lock.specs.Passes.{SharedView}
use Rattle.turn_lock.specs.PassParts.{with_other}
use Rattle.call_history.specs.Entries.{by}
use Rattle.mount_model.specs.Port.{PlacedCalls}
use Rattle.mount_shared.specs.SharedCalls.{MountPass}
use Rattle.script_lang.specs.declared.commands.Section.{Section}
use Rattle.fsc_session.specs.ScriptRun.{notes_by}
use Rattle.mount_links.specs.declared.step.LinkStep.{LinkStep}
use Rattle.fsc_commands.specs.declared.TheConstants.{MAX_CALLS}
use Rattle.script_runs.specs.InRange.{AreInRange}
use Rattle.script_runs.specs.Passes.{AreHalves, IsAsBefore, RunFrom, Shows, calls_of}
use Rattle.script_runs.proofs.JoinLemmas.{as_before_both, behind_high, behind_low, below_or_above, border_of, joined_high, joined_low, none_above, noted_both, run_both, shows_both}
use Rattle.script_runs.proofs.RangeLemmas.{in_range_between}
use Rattle.linked_turns.specs.declared.output.LinkedOutput.{LinkedOutput}
use Rattle.linked_turns.specs.Parts.{HasParts, is_even}
use Rattle.linked_turns.proofs.TurnLemmas.{parts_as}
use Rattle.linked_threads.specs.Threaded.{OnBoth, HaveCalled, HaveRun}

-- if a caller made no calls, the mounts have none of it
record HasNone (c : ℕ) (made even odd : PlacedCalls) : Type 0 where
  none : by c made ≡ []
  no_even : by c even ≡ []
  no_odd : by c odd ≡ []

no_parts : (b : Bool) (steps : List LinkStep) (even odd : PlacedCalls) → HasParts b steps [] even odd → (even ≡ []) × (odd ≡ [])
no_parts true steps even odd parts = (parts.0, parts.1)
no_parts false [] even odd parts = (parts.1, parts.2)
no_parts false (step ∷ steps) even odd parts = absurd parts.0

has_none : (c : ℕ) (steps : List LinkStep) (made even odd : PlacedCalls) → by c made ≡ [] → HasParts (is_even c) steps (by c made) (by c even) (by c odd) → HasNone c made even odd
has_none c steps made even odd none parts =
    let both_none = no_parts (is_even c) steps (by c even) (by c odd) (subst (λ l. HasParts (is_even c) steps l (by c even) (by c odd)) none parts) in
    record { none = none; no_even = both_none.0; no_odd = both_none.1 }

module _ (seed : List ℕ) (shared : OnBoth SharedView) (old lower upper lower' upper' : OnBoth MountPass)
    (first others : List Section) (told more : LinkedOutput)
    (cut_even : AreHalves MAX_CALLS shared.even old.even lower.even upper.even first others)
    (cut_odd : AreHalves (2 * MAX_CALLS) shared.odd old.odd lower.odd upper.odd first others)
    (one : HaveRun seed lower first lower' told) (two : HaveRun seed upper others upper' more) where
  -- what both halves have together
  abbrev evens : MountPass
  evens = with_other lower'.even upper'.even

  abbrev odds : MountPass
  odds = with_other lower'.odd upper'.odd

  abbrev all_made : PlacedCalls
  all_made = one.made ++ two.made

  border : upper.even.who ≡ old.even.who + length first
  border = border_of MAX_CALLS shared.even old.even lower.even upper.even first others cut_even

  ran_first : RunFrom seed old.even.who first one.made
  ran_first = subst (λ (w : ℕ). RunFrom seed w first one.made) cut_even.lowest one.called.run

  low_none : (c : ℕ) → c < upper.even.who → HasNone c two.made (calls_of upper'.even) (calls_of upper'.odd)
  low_none c below = let parts = two.called.parts c in
      has_none c parts.0 two.made (calls_of upper'.even) (calls_of upper'.odd) (two.called.run.none c below) parts.1

  high_none : (c : ℕ) → upper.even.who ≤ c → HasNone c one.made (calls_of lower'.even) (calls_of lower'.odd)
  high_none c above = let parts = one.called.parts c in
      has_none c parts.0 one.made (calls_of lower'.even) (calls_of lower'.odd)
      (none_above seed old.even.who upper.even.who first one.made border ran_first c above) parts.1

  abbrev PartsOf : ℕ → Type 0
  PartsOf c =
      (steps : List LinkStep) × HasParts (is_even c) steps (by c all_made) (by c (calls_of evens)) (by c (calls_of odds))

  parts_both : (c : ℕ) → PartsOf c
  parts_both c = below_or_above c upper.even.who (PartsOf c)
      (λ below. let none = low_none c below in let parts = one.called.parts c in (
        parts.0,
        parts_as (is_even c) parts.0 parts.0 _ _ _ _ _ _ refl (behind_low c one.made two.made none.none)
            (joined_low c lower'.even upper'.even none.no_even) (joined_low c lower'.odd upper'.odd none.no_odd) parts.1,
      ))
      (λ above. let none = high_none c above in let parts = two.called.parts c in (
        parts.0,
        parts_as (is_even c) parts.0 parts.0 _ _ _ _ _ _ refl (behind_high c one.made two.made none.none)
            (joined_high c lower'.even upper'.even none.no_even) (joined_high c lower'.odd upper'.odd none.no_odd) parts.1,
      ))

  shown_even : Shows (told.even.items ++ more.even.items) (calls_of evens)
  shown_even = shows_both upper.even.who told.even.items more.even.items lower'.even upper'.even one.shows_even
      two.shows_even (λ c below. (low_none c below).no_even) (λ c above. (high_none c above).no_even)

  shown_odd : Shows (told.odd.items ++ more.odd.items) (calls_of odds)
  shown_odd = shows_both upper.even.who told.odd.items more.odd.items lower'.odd upper'.odd one.shows_odd
      two.shows_odd (λ c below. (low_none c below).no_odd) (λ c above. (high_none c above).no_odd)

  ran_both : RunFrom seed old.even.who (first ++ others) all_made
  ran_both = run_both seed old.even.who upper.even.who first others one.made two.made all_made border ran_first
      two.called.run (λ c. behind_low c one.made two.made) (λ c. behind_high c one.made two.made)

  notes_of_both : told.notes.items ++ more.notes.items ≡ notes_by seed old.even.who (first ++ others) all_made
  notes_of_both = noted_both seed old.even.who upper.even.who first others one.made two.made all_made border ran_first
      two.called.run (λ c. behind_low c one.made two.made) (λ c. behind_high c one.made two.made)
      told.notes.items more.notes.items
      (one.noted ∙ ap (λ (w : ℕ). notes_by seed w first one.made) cut_even.lowest) two.noted

  pub both_run : (sections : List Section) (new : OnBoth MountPass) (all : LinkedOutput) → sections ≡ first ++ others
      → new.even ≡ evens → new.odd ≡ odds → all.even.items ≡ told.even.items ++ more.even.items
      → all.odd.items ≡ told.odd.items ++ more.odd.items → all.notes.items ≡ told.notes.items ++ more.notes.items
      → HaveRun seed old sections new all
  both_run sections new all whole is_even_pass is_odd_pass told_even told_odd told_notes =
      subst (λ (s : List Section). HaveRun seed old s new all) (sym whole)
      (record {
        made = all_made;
        even_as_before = subst (λ p. IsAsBefore old.even p) (sym is_even_pass)
            (as_before_both MAX_CALLS shared.even old.even lower.even upper.even lower'.even upper'.even first others
            cut_even one.even_as_before two.even_as_before);
        odd_as_before = subst (λ p. IsAsBefore old.odd p) (sym is_odd_pass)
            (as_before_both (2 * MAX_CALLS) shared.odd old.odd lower.odd upper.odd lower'.odd upper'.odd first others
            cut_odd one.odd_as_before two.odd_as_before);
        called = subst (λ p. HaveCalled seed old.even.who (first ++ others) all_made (calls_of p) (calls_of new.odd))
            (sym is_even_pass)
            (subst (λ p. HaveCalled seed old.even.who (first ++ others) all_made (calls_of evens) (calls_of p))
            (sym is_odd_pass) (record { run = ran_both; parts = parts_both }));
        even_ranged = subst (λ p. AreInRange (calls_of p)) (sym is_even_pass)
            (in_range_between lower'.even.past (calls_of upper'.even) lower'.even.mine one.even_ranged two.even_ranged);
        odd_ranged = subst (λ p. AreInRange (calls_of p)) (sym is_odd_pass)
            (in_range_between lower'.odd.past (calls_of upper'.odd) lower'.odd.mine one.odd_ranged two.odd_ranged);
        shows_even = subst (λ p. Shows all.even.items (calls_of p)) (sym is_even_pass)
            (subst (λ l. Shows l (calls_of evens)) (sym told_even) shown_even);
        shows_odd = subst (λ p. Shows all.odd.items (calls_of p)) (sym is_odd_pass)
            (subst (λ l. Shows l (calls_of odds)) (sym told_odd) shown_odd);
        noted = told_notes ∙ notes_of_both;
      })
