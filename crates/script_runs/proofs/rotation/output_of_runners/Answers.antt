use Rattle.std.proofs.Common.{◌++◌, ap₂, sym, ◌∙◌}
use Rattle.fsc_session.specs.Runners.{RunnerView}
use Rattle.script_runs.proofs.CallerLemmas.{noted_by-more, shown_by-more}
use Rattle.script_runs.proofs.rotation.output_of_runners.Goals as goal

pub runners-preserved : goal.runners-preserved
runners-preserved c = record {
  entries = c.in_ok-append.ensures.entries
      ∙ ap₂ (λ xs ys. xs ++ ys) c.runners.invariant.entries (c.of_caller.ensures.entries ∙ c.ran.ensures.entries)
      ∙ sym (shown_by-more (λ (r : RunnerView). r.entries) c.runners.yielded c.in-Some.runner);
  notes = c.in_ok-append.ensures.notes
      ∙ ap₂ (λ xs ys. xs ++ ys) c.runners.invariant.notes (c.of_caller.ensures.notes ∙ c.ran.ensures.notes)
      ∙ sym (noted_by-more c.runners.yielded c.in-Some.runner);
}
