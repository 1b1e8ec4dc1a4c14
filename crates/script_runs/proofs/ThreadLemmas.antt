-- Callers in threads on one mount, and the history that they make.
use Rattle.std.proofs.Common.{◌≡◌, ℕ, ◌+◌, List, [], ◌∷◌, ◌++◌, length, Some, sym, ap, ◌∙◌, subst, arith}
use Rattle.std.specs.Prelude.{slice_get, All}
use Rattle.turn_lock.specs.Passes.{SharedView}
use Rattle.turn_lock.specs.PassParts.{with_other}
use Rattle.call_history.specs.Entries.{by, entries_by, entries_with_places}
use Rattle.reply_text.specs.Ranges.{EntryIsInRange}
use Rattle.reply_text.specs.Logged.{PlacedLogged, logged_calls, logged_history}
use Rattle.reply_text.specs.declared.notes.Note.{Note}
use Rattle.fsc_session.proofs.ShownRuns.{entries_by-shown}
use Rattle.mount_model.specs.History.{History}
use Rattle.mount_model.specs.Port.{PlacedCalls}
use Rattle.mount_shared.specs.SharedCalls.{MountPass, PassAfterCalls}
use Rattle.script_lang.specs.declared.commands.Section.{Section}
use Rattle.fsc_commands.specs.declared.TheConstants.{MAX_CALLS}
use Rattle.fsc_session.specs.Session.{IsRunOfSection, notes_of_section}
use Rattle.fsc_session.specs.ScriptRun.{IsRunOfCaller, notes_by, notes_of}
use Rattle.fsc_session.proofs.NoteLemmas.{notes_by-alike}
use Rattle.script_runs.specs.InRange.{AreInRange}
use Rattle.script_runs.specs.Passes.{AreHalves, CanRun, RunFrom, calls_of}
use Rattle.script_runs.specs.Runs.{IsLawfulRun, IsLogOf}
use Rattle.script_runs.specs.Threaded.{HaveRun}
use Rattle.script_runs.proofs.JoinLemmas.{as_before_both, border_of, joined_high, joined_low, none_above, noted_both, run_both, shows_both}
use Rattle.script_runs.proofs.PassLemmas.{called_by, one_from, one_noted, one_section, shows_same}
use Rattle.script_runs.proofs.RangeLemmas.{in_range_between}

-- ---- one caller

pub one_runs : (lawful : History → Type 0) (seed : List ℕ) (shared : SharedView) (old new : MountPass)
    (sections : List Section) (section : Section) (shown : PlacedLogged) (entries : PlacedCalls) (notes : List Note)
    → CanRun MAX_CALLS shared old sections → length sections ≡ 1 → slice_get sections 0 ≡ Some section
    → PassAfterCalls lawful old entries new → AreInRange entries → shown ≡ logged_calls entries
    → IsRunOfSection seed old.who section entries → notes ≡ notes_of_section seed old.who section entries
    → by new.who new.mine ≡ new.mine → HaveRun seed old sections new shown notes
one_runs lawful seed shared old new sections section shown entries notes can one here after_calls ranged is ran are own =
    let called = called_by lawful old new entries can.no_past can.no_own after_calls own in
    subst (λ (s : List Section). HaveRun seed old s new shown notes) (sym (one_section sections section one here))
    (record {
      as_before = called.as_before;
      run = subst (RunFrom seed old.who (section ∷ [])) (sym called.all)
          (one_from seed old.who section entries called.own ran);
      ranged = subst AreInRange (sym called.all) ranged;
      shows = shows_same shown entries (calls_of new) is called.all;
      noted = one_noted seed old.who section entries notes called.own are
          ∙ ap (notes_by seed old.who (section ∷ [])) (sym called.all);
    })

-- ---- two passes that were joined

pub both_run : (seed : List ℕ) (shared : SharedView) (old lower upper lower' upper' : MountPass)
    (sections first others : List Section) (told more : PlacedLogged) (notes more_notes : List Note)
    → sections ≡ first ++ others → AreHalves MAX_CALLS shared old lower upper first others
    → HaveRun seed lower first lower' told notes → HaveRun seed upper others upper' more more_notes
    → (new : MountPass) → new ≡ with_other lower' upper'
    → HaveRun seed old sections new (told ++ more) (notes ++ more_notes)
both_run seed shared old lower upper lower' upper' sections first others told more notes more_notes whole cut one two
    new is =
    let next = border_of MAX_CALLS shared old lower upper first others cut in
    let all = calls_of (with_other lower' upper') in
    let ran : RunFrom seed old.who first (calls_of lower') =
    subst (λ (w : ℕ). RunFrom seed w first (calls_of lower')) cut.lowest one.run in
    subst (λ p. HaveRun seed old sections p (told ++ more) (notes ++ more_notes)) (sym is)
    (subst (λ (s : List Section). HaveRun seed old s (with_other lower' upper') (told ++ more) (notes ++ more_notes))
    (sym whole)
    (record {
      as_before = as_before_both MAX_CALLS shared old lower upper lower' upper' first others cut
          one.as_before two.as_before;
      run = run_both seed old.who upper.who first others (calls_of lower') (calls_of upper') all next ran two.run
          (λ c. joined_low c lower' upper') (λ c. joined_high c lower' upper');
      ranged = in_range_between lower'.past (calls_of upper') lower'.mine one.ranged two.ranged;
      shows = shows_both upper.who told more lower' upper' one.shows two.shows two.run.none
          (none_above seed old.who upper.who first (calls_of lower') next ran);
      noted = noted_both seed old.who upper.who first others (calls_of lower') (calls_of upper') all next ran two.run
          (λ c. joined_low c lower' upper') (λ c. joined_high c lower' upper') notes more_notes
          (one.noted ∙ ap (λ (w : ℕ). notes_by seed w first (calls_of lower')) cut.lowest) two.noted;
    }))

-- ---- all callers of a script

module _ (lawful : History → Type 0) (seed : List ℕ) (script : List Section) (old new : MountPass)
    (told : PlacedLogged) (notes : List Note) (history : History)
    (ran : HaveRun seed old script new told notes) (first : old.who ≡ 0)
    (callers : (c : ℕ) → entries_by c history ≡ by c (calls_of new)) where
  is_lawful : lawful history → IsLawfulRun lawful seed script history
  is_lawful right = record {
    lawfully = right;
    callers = λ c. let is : 0 + c ≡ c = omega arith in
        subst (IsRunOfCaller seed c (slice_get script c)) (sym (callers c))
        (subst (λ (n : ℕ). IsRunOfCaller seed n (slice_get script c) (by n (calls_of new)))
        (ap (λ (w : ℕ). w + c) first ∙ is) (ran.run.each c));
  }

  pub told_history : (c : ℕ) → by c told ≡ entries_by c (logged_history history)
  told_history c = ran.shows c ∙ ap logged_calls (sym (callers c)) ∙ entries_by-shown c history

  told_notes : notes ≡ notes_of seed script history
  told_notes =
      ran.noted
      ∙ ap (λ (w : ℕ). notes_by seed w script (calls_of new)) first
      ∙ notes_by-alike seed 0 script (calls_of new) (entries_with_places 0 history) (λ i below. sym (callers (0 + i)))

  pub tells_lawful : (placed : PlacedLogged) → placed ≡ entries_with_places 0 (logged_history history) → lawful history
      → All EntryIsInRange history → IsLogOf (IsLawfulRun lawful) seed script placed notes
  tells_lawful placed in_place right ranged = record {
    history = history;
    run = is_lawful right;
    ranged = ranged;
    in_place = in_place;
    noted = told_notes;
  }
