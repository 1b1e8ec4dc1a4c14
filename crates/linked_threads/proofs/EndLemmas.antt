-- All callers of a script, and the histories that they make.
use Rattle.std.proofs.Common.{◌≡◌, ℕ, ◌+◌, ◌<◌, ◌^◌, List, [], ◌∷◌, length, refl, sym, ap, ◌∙◌, subst, arith}
use Rattle.std.specs.Prelude.{slice_get, All}
use Rattle.std.proofs.lemmas.List.Elements.{All-nil}
use Rattle.call_history.specs.Entries.{by, entries_by, entries_with_places}
use Rattle.mount_model.specs.History.{History}
use Rattle.mount_shared.specs.SharedCalls.{MountPass}
use Rattle.script_lang.specs.declared.commands.Section.{Section}
use Rattle.reply_text.specs.Ranges.{EntryIsInRange}
use Rattle.reply_text.specs.Logged.{PlacedLogged, logged_calls, logged_history}
use Rattle.reply_text.specs.declared.notes.Note.{Note}
use Rattle.fsc_session.specs.ScriptRun.{IsRunOfCaller, notes_by}
use Rattle.fsc_session.proofs.ShownRuns.{entries_by-shown}
use Rattle.linked_turns.specs.declared.output.LinkedOutput.{LinkedOutput}
use Rattle.linked_turns.specs.Parts.{is_even}
use Rattle.linked_turns.proofs.EndLemmas.{none_parts, short_of}
use Rattle.linked_threads.specs.LinkedThreads.{IsLinkedLogOfCalls}
use Rattle.script_runs.specs.Passes.{calls_of}
use Rattle.linked_turns.proofs.TurnLemmas.{parts_as}
use Rattle.linked_threads.specs.Threaded.{OnBoth, HaveRun}

module _ (lawful_0 lawful_1 : History → Type 0) (seed : List ℕ) (script : List Section) (old new : OnBoth MountPass) (told : LinkedOutput) (even odd : History)
    (ran : HaveRun seed old script new told) (first : old.even.who ≡ 0)
    (of_even : (c : ℕ) → entries_by c even ≡ by c (calls_of new.even)) (of_odd : (c : ℕ) → entries_by c odd ≡ by c (calls_of new.odd)) where
  pub told_even : (c : ℕ) → by c told.even.items ≡ entries_by c (logged_history even)
  told_even c = ran.shows_even c ∙ ap logged_calls (sym (of_even c)) ∙ entries_by-shown c even

  pub told_odd : (c : ℕ) → by c told.odd.items ≡ entries_by c (logged_history odd)
  told_odd c = ran.shows_odd c ∙ ap logged_calls (sym (of_odd c)) ∙ entries_by-shown c odd

  run_of : (c : ℕ) → IsRunOfCaller seed c (slice_get script c) (by c ran.made)
  run_of c =
      let is : 0 + c ≡ c = omega arith in
      subst (λ (n : ℕ). IsRunOfCaller seed n (slice_get script c) (by n ran.made)) (ap (λ (w : ℕ). w + c) first ∙ is) (ran.called.run.each c)

  pub tells_linked : (even_logged_calls odd_logged_calls : PlacedLogged) → even_logged_calls ≡ entries_with_places 0 (logged_history even) → odd_logged_calls ≡ entries_with_places 0 (logged_history odd)
      → length even_logged_calls < 2 ^ 64 → length odd_logged_calls < 2 ^ 64 → All EntryIsInRange even → All EntryIsInRange odd
      → lawful_0 even → lawful_1 odd → IsLinkedLogOfCalls lawful_0 lawful_1 seed script even_logged_calls odd_logged_calls told.notes.items
  tells_linked even_logged_calls odd_logged_calls even_in_place odd_in_place few_even few_odd ranged_even ranged_odd right_even right_odd = record {
    told = ran.made;
    even = even;
    odd = odd;
    calls = record {
      lawful_even = right_even;
      lawful_odd = right_odd;
      linked = record {
        callers = run_of;
        parts = λ c. let parts = ran.called.parts c in (
          parts.0,
          parts_as (is_even c) parts.0 parts.0 _ _ _ _ _ _ refl refl (sym (of_even c)) (sym (of_odd c)) parts.1,
        );
        short_even = short_of even even_logged_calls even_in_place few_even;
        short_odd = short_of odd odd_logged_calls odd_in_place few_odd;
        ranged_even = ranged_even;
        ranged_odd = ranged_odd;
      };
    };
    even_in_place = even_in_place;
    odd_in_place = odd_in_place;
    noted = ran.noted ∙ ap (λ (w : ℕ). notes_by seed w script ran.made) first;
  }

-- a script without callers
pub nobody_runs : (lawful_0 lawful_1 : History → Type 0) (seed : List ℕ) (script : List Section) (even odd : PlacedLogged) (notes : List Note) → length script ≡ 0
    → even ≡ [] → odd ≡ [] → notes ≡ [] → lawful_0 [] → lawful_1 [] → IsLinkedLogOfCalls lawful_0 lawful_1 seed script even odd notes
nobody_runs lawful_0 lawful_1 seed [] even odd notes none no_even no_odd silent right_even right_odd = record {
  told = [];
  even = [];
  odd = [];
  calls = record {
    lawful_even = right_even;
    lawful_odd = right_odd;
    linked = record {
      callers = λ c. refl;
      parts = λ c. ([], none_parts (is_even c));
      short_even = omega arith;
      short_odd = omega arith;
      ranged_even = All-nil EntryIsInRange;
      ranged_odd = All-nil EntryIsInRange;
    };
  };
  even_in_place = no_even;
  odd_in_place = no_odd;
  noted = silent;
}
nobody_runs lawful_0 lawful_1 seed (section ∷ more) even odd notes none no_even no_odd silent right_even right_odd = absurd (omega (arith, none))
