use Rattle.std.proofs.Common.{[], ◌∷◌, ◌++◌, ap, sym, ◌∙◌}
use Rattle.std.proofs.lemmas.List.{map-append}
use Rattle.script_runs.specs.Callers.{noted_by}
use Rattle.script_runs.proofs.CallerLemmas.{noted_by-more, shown_by-more}
use Rattle.linked_turns.specs.declared.runners.LinkedRunner.{LinkedRunner}
use Rattle.linked_turns.specs.Callers.{even_logged_calls, odd_logged_calls, runners_of}
use Rattle.linked_turns.proofs.output.output_of_runners.Goals as goal

pub runners-preserved : goal.runners-preserved
runners-preserved c =
    let put = c.in_ok-put_told.ensures in
    let before = c.runners.yielded in
    let caller = c.in-Some.runner in
    record {
      even = put.even ∙ ap (λ l. l ++ even_logged_calls caller) c.runners.invariant.even
          ∙ sym (shown_by-more even_logged_calls before caller);
      odd = put.odd ∙ ap (λ l. l ++ odd_logged_calls caller) c.runners.invariant.odd ∙ sym (shown_by-more odd_logged_calls before caller);
      notes = put.notes ∙ ap (λ l. l ++ caller.runner.notes) c.runners.invariant.notes
          ∙ sym (ap noted_by (map-append (λ (c : LinkedRunner). c.runner) before (caller ∷ []))
          ∙ noted_by-more (runners_of before) caller.runner);
    }
