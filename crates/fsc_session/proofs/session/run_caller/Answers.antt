use Rattle.std.proofs.Common.{Some, ◌≤◌, ◌+◌, ◌++◌, length, sym, ap, ◌∙◌, subst, arith}
use Rattle.std.proofs.lemmas.Result.{err_from_is_err_and}
use Rattle.fsc_session.proofs.RunLemmas.{so_far_goes_on, next_after, run_is_whole, notes_are_whole}
use Rattle.fsc_session.proofs.StopLemmas.{is_begun}
use Rattle.fsc_session.specs.Meaning.{IsBegunBy}
use Rattle.fsc_session.specs.Session.{IsRunOfSection, notes_of_section}
use Rattle.fsc_session.proofs.session.run_caller.Goals as goal

pub returns-in_err-step-clause-failed : goal.returns-in_err-step-clause-failed
returns-in_err-step-clause-failed g c =
    let p = err_from_is_err_and c.from_residual.result c.from_residual.ensures.1 in
    let more = c.in_err-step.ensures.failed in
    let i = c.commands.invariant in
    let so = i.ran in
    rw p.1 (record {
      runner = c.commands.runner;
      told = so.placed;
      made = more.made;
      rest = more.rest;
      reached_by_call = g.met.P.MountPort.by_more c.args.port.now c.commands.port c.step.new.port so.placed more.made so.reached_by_call more.reached_by_call;
      own = (i.caller, i.section);
      has_run = so.has_run;
      begins = more.begins;
      few = more.few;
      begun = subst (λ section. IsBegunBy c.args.seed.now (g.P.MountPort.who c.args.port.now) (Some section) (so.placed ++ more.made)) i.section
          (subst (λ caller. IsBegunBy c.args.seed.now caller (Some c.commands.runner.section) (so.placed ++ more.made)) i.caller
          (is_begun c.args.seed.now c.commands.runner so.placed more.made more.rest so.has_run more.begins));
    })

pub commands-preserved : goal.commands-preserved
commands-preserved g c =
    let made = c.in_ok-step.ensures.stepped in
    let i = c.commands.invariant in
    let at = i.next in
    let below = c.commands-test.true in
    let all = c.len-number-end.ensures ∙ ap (λ section. length section.commands) (sym i.section) in
    let few : length made.made ≤ 4 = made.few in
    let counted = made.counted in
    let room = i.room in
    record {
      caller = made.caller ∙ i.caller;
      port = c.in_ok-step.ensures.caller ∙ i.port;
      section = made.section ∙ i.section;
      next = next_after c.args.seed.now _ c.commands.runner c.step.new.self made.made made.step (omega (arith, at, below, all)) ∙ ap (λ n. n + 1) at;
      room = omega (arith, few, counted, room);
      ran = so_far_goes_on g.P.MountPort.after_calls g.met.P.MountPort.by_more c.args.port.now c.commands.port c.step.new.port
          (g.P.MountPort.calls_left c.step.new.port) (g.P.MountPort.calls_left c.commands.port) (g.P.MountPort.calls_left c.args.port.now)
          c.args.seed.now _ c.commands.runner c.step.new.self i.ran made;
    }

pub returns-clause-ran : goal.returns-clause-ran
returns-clause-ran g c =
    let i = c.commands.invariant in
    let runner = c.commands.runner in
    let at = i.next in
    let past = c.commands-test.false in
    let all = c.len-number-end.ensures ∙ ap (λ section. length section.commands) (sym i.section) in
    let seed = c.args.seed.now in
    let so = i.ran in
    record {
      placed = so.placed;
      reached_by_call = so.reached_by_call;
      shown = c.ran.ensures.entries ∙ so.has_run.shown;
      run = subst (λ section. IsRunOfSection seed (g.P.MountPort.who c.args.port.now) section so.placed) i.section
          (subst (λ caller. IsRunOfSection seed caller runner.section so.placed) i.caller
          (run_is_whole seed runner.caller runner.section runner.next so.placed runner.notes (omega (arith, at, past, all)) so.has_run.run));
      noted = c.ran.ensures.notes
          ∙ notes_are_whole seed runner.caller runner.section runner.next so.placed runner.notes (omega (arith, at, past, all)) so.has_run.run
          ∙ ap (λ caller. notes_of_section seed caller runner.section so.placed) i.caller
          ∙ ap (λ section. notes_of_section seed (g.P.MountPort.who c.args.port.now) section so.placed) i.section;
      counted = so.counted;
    }
