use Rattle.std.proofs.Common.{◌≡◌, ◌+◌, true, [], length, refl, ap, subst, sym, ◌∙◌, arith, append-nil, None}
use Rattle.std.specs.Prelude.{slice_get}
use Rattle.std.proofs.lemmas.Option.{slice_get_past}
use Rattle.fsc_session.specs.Asking.{AsksRightly}
use Rattle.mount_model.specs.Port.{PlacedCalls}
use Rattle.fsc_session.specs.Running.{RunnerStep}
use Rattle.fsc_session.specs.Runners.{HasRun, runner_view, spent_if}
use Rattle.fsc_session.specs.Stopping.{next_steps}
use Rattle.fsc_commands.specs.MadeCalls.{Begun}
use Rattle.fsc_commands.proofs.BegunLemmas.{made_begins}
use Rattle.fsc_session.proofs.StopLemmas.{next_begun}
use Rattle.std.proofs.lemmas.Result.{err_from_is_err_and}
use Rattle.fsc_session.proofs.RunLemmas.{stepped, there, asked_there}
use Rattle.fsc_session.proofs.runner.Runner.step.Goals as goal

pub returns-then-self-commands-clause-stepped : goal.returns-then-self-commands-clause-stepped
returns-then-self-commands-clause-stepped g c =
    let all = c.if-self-commands.true ∙ ap (λ commands. length commands) c.as_slice-commands.ensures in
    record {
      made = [];
      reached_by_call = g.met.P.MountPort.by_none c.args.port.now;
      grown = sym (append-nil c.args.self.now.entries);
      few = omega arith;
      counted = omega arith;
      caller = refl;
      section = refl;
      step = (
        refl,
        refl,
        subst (λ old. slice_get old.section.commands old.next ≡ None) c.self.view_is
            (slice_get_past c.self.inside.section.now.commands c.self.inside.next (omega (arith, all))),
      );
      run = λ placed so. subst (λ (p : PlacedCalls). HasRun c.args.seed.now c.args.self.now p) (sym (append-nil placed)) so;
    }

pub returns-clause-stepped : goal.returns-clause-stepped
returns-clause-stepped g c =
    subst (λ old. RunnerStep (g.P.MountPort.after_calls c.args.port.now) c.run_command-ran.new.port (g.P.MountPort.calls_left c.run_command-ran.new.port)
    (g.P.MountPort.calls_left c.args.port.now) c.args.seed.now true old
    (runner_view c.self.inside.caller c.self.inside.section.now (c.self.inside.next + 1) c.run_command-ran.new.entries c.note.new.notes))
    (ap (λ s. spent_if s (runner_view c.self.inside.caller c.self.inside.section.now c.self.inside.next c.self.inside.entries c.self.inside.notes)) (sym c.if-self.false)
    ∙ c.self.view_is)
    (stepped (g.P.MountPort.after_calls c.args.port.now) c.run_command-ran.new.port (g.P.MountPort.calls_left c.run_command-ran.new.port)
    (g.P.MountPort.calls_left c.args.port.now) c.args.seed.now c.index-commands-self.result c.in_ok-outcome.outcome
    c.self.inside.caller c.self.inside.section.now c.self.inside.next c.self.inside.entries c.run_command-ran.new.entries c.self.inside.notes c.note.new.notes
    (there _ _ _ _ c.as_slice-commands.ensures c.self.invariant c.if-self-commands.false c.index-commands-self.is)
    c.in_ok-note.ensures.noted c.in_ok-outcome.ensures.made)

pub run_command-ran-requires-clause-asked : goal.run_command-ran-requires-clause-asked
run_command-ran-requires-clause-asked g c =
    asked_there c.self.inside.section.now c.self.inside.next c.index-commands-self.result
    (subst (λ old. AsksRightly old.section) (sym c.self.view_is) c.requires.asked)
    (there _ _ _ _ c.as_slice-commands.ensures c.self.invariant c.if-self-commands.false c.index-commands-self.is)

pub returns-in_err-outcome-clause-failed : goal.returns-in_err-outcome-clause-failed
returns-in_err-outcome-clause-failed g c =
    let p = err_from_is_err_and c.from_residual.result c.from_residual.ensures.1 in
    let is = ap (λ s. spent_if s (runner_view c.self.inside.caller c.self.inside.section.now c.self.inside.next c.self.inside.entries c.self.inside.notes)) (sym c.if-self.false) ∙ c.self.view_is in
    rw p.1 (subst (λ old. Begun (g.P.MountPort.after_calls c.args.port.now) c.run_command-ran.new.port 4 (next_steps c.args.seed.now old)) is
    (next_begun c.args.seed.now c.index-commands-self.result
    c.self.inside.caller c.self.inside.section.now c.self.inside.next c.self.inside.entries c.self.inside.notes
    (there _ _ _ _ c.as_slice-commands.ensures c.self.invariant c.if-self-commands.false c.index-commands-self.is)
    c.in_err-outcome.ensures.failed))

pub returns-in_err-note-clause-failed : goal.returns-in_err-note-clause-failed
returns-in_err-note-clause-failed g c =
    let p = err_from_is_err_and c.from_residual-in_err-note.result c.from_residual-in_err-note.ensures.1 in
    let is = ap (λ s. spent_if s (runner_view c.self.inside.caller c.self.inside.section.now c.self.inside.next c.self.inside.entries c.self.inside.notes)) (sym c.if-self.false) ∙ c.self.view_is in
    rw p.1 (subst (λ old. Begun (g.P.MountPort.after_calls c.args.port.now) c.run_command-ran.new.port 4 (next_steps c.args.seed.now old)) is
    (next_begun c.args.seed.now c.index-commands-self.result
    c.self.inside.caller c.self.inside.section.now c.self.inside.next c.self.inside.entries c.self.inside.notes
    (there _ _ _ _ c.as_slice-commands.ensures c.self.invariant c.if-self-commands.false c.index-commands-self.is)
    (made_begins c.in_ok-outcome.ensures.made)))
