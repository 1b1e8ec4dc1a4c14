use Rattle.std.proofs.Common.{◌++◌, sym, subst}
use Rattle.std.specs.Prelude.{IfOk}
use Rattle.script_runs.specs.Threaded.{HaveRun}
use Rattle.script_runs.proofs.ThreadLemmas.{both_run}
use Rattle.script_runs.proofs.threads.+fn-run_all-join+arg2+fn-run_all-join+arg3+run_all.Goals as goal

pub returns : goal.returns
returns g t c =
    let seed = c.args.seed.now in
    let lower = c.in_ok-lower.lower.pass in
    let upper = c.in_ok-lower.upper.pass in
    let first = c.in_ok-lower.lower.sections.now in
    let others = c.in_ok-lower.upper.sections.now in
    let told = c.in_ok-pass.told in
    let more = c.in_ok-other.more in
    let one : HaveRun seed lower first c.in_ok-pass.pass told.entries.items told.notes.items =
    subst (λ r. IfOk r (λ ran. HaveRun seed lower first ran.0 ran.1.entries.items ran.1.notes.items)) c.in_ok-pass.was c.join-one.ensures.first in
    let two : HaveRun seed upper others c.in_ok-other.other more.entries.items more.notes.items =
    subst (λ r. IfOk r (λ ran. HaveRun seed upper others ran.0 ran.1.entries.items ran.1.notes.items)) c.in_ok-other.was c.join-one.ensures.second in
    subst (λ es. HaveRun seed c.args.callers.pass c.args.callers.sections.now c.join.new.pass es c.append.new.self.notes.items) (sym c.in_ok-append.ensures.entries)
    (subst (λ ns. HaveRun seed c.args.callers.pass c.args.callers.sections.now c.join.new.pass (told.entries.items ++ more.entries.items) ns) (sym c.in_ok-append.ensures.notes)
    (both_run seed c.args.shared.now c.args.callers.pass lower upper c.in_ok-pass.pass c.in_ok-other.other c.args.callers.sections.now first others told.entries.items more.entries.items
    told.notes.items more.notes.items c.in_ok-lower.ensures.whole c.in_ok-lower.ensures.halves one two c.join.new.pass c.join.ensures.after))
