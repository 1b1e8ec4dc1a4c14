use Rattle.std.proofs.Common.{subst}
use Rattle.std.specs.Prelude.{IfOk}
use Rattle.linked_threads.specs.Threaded.{HaveRun, both}
use Rattle.linked_threads.proofs.JoinLemmas.{both_run}
use Rattle.linked_threads.proofs.threads.+fn-run_all-join+arg2+fn-run_all-join+arg3+run_all.Goals as goal

pub returns : goal.returns
returns g t c =
    let seed = c.args.seed.now in
    let lower = both c.in_ok-lower.lower.passes.even c.in_ok-lower.lower.passes.odd in
    let upper = both c.in_ok-lower.upper.passes.even c.in_ok-lower.upper.passes.odd in
    let first = c.in_ok-lower.lower.sections.now in
    let others = c.in_ok-lower.upper.sections.now in
    let low_ended = c.in_ok-passes.passes in
    let up_ended = c.in_ok-others.others in
    let one : HaveRun seed lower first (both low_ended.even low_ended.odd) c.in_ok-passes.told =
    subst (λ r. IfOk r (λ ran. HaveRun seed lower first (both ran.0.even ran.0.odd) ran.1)) c.in_ok-passes.was c.join-one.ensures.first in
    let two : HaveRun seed upper others (both up_ended.even up_ended.odd) c.in_ok-others.more =
    subst (λ r. IfOk r (λ ran. HaveRun seed upper others (both ran.0.even ran.0.odd) ran.1)) c.in_ok-others.was c.join-one.ensures.second in
    let halves = c.in_ok-lower.ensures in
    let told = c.in_ok-append.ensures in
    both_run seed (both c.args.shared.now.even c.args.shared.now.odd) (both c.args.callers.passes.even c.args.callers.passes.odd) lower upper
    (both low_ended.even low_ended.odd) (both up_ended.even up_ended.odd) first others c.in_ok-passes.told c.in_ok-others.more
    halves.even halves.odd one two c.args.callers.sections.now (both c.join.new.pass c.join-2.new.pass) c.append.new.told
    halves.whole c.join.ensures.after c.join-2.ensures.after told.even told.odd told.notes
