use Rattle.std.proofs.Common.{◌≡◌, sym, ◌∙◌, subst, arith}
use Rattle.std.proofs.lemmas.Option.{slice_get_read}
use Rattle.mount_shared.specs.SharedCalls.{PassAfterCalls}
use Rattle.fsc_session.specs.Session.{IsRunOfSection, notes_of_section}
use Rattle.script_runs.specs.Threaded.{HaveRun}
use Rattle.script_runs.proofs.ThreadLemmas.{one_runs}
use Rattle.script_runs.proofs.threads.run_one.Goals as goal

pub returns : goal.returns
returns g c =
    let entries = c.in_ok-ran.ran.entries in
    let ran = c.in_ok-ran.ensures.ran in
    let placed = ran.placed in
    let notes = c.in_ok-ran.ran.notes in
    let told = c.of_caller.result in
    let begun = c.over-port.ensures ∙ c.new-port.ensures in
    let ended = c.back-pass.ensures ∙ c.back.ensures in
    subst (λ es. HaveRun c.args.seed.now c.args.callers.pass c.args.callers.sections.now c.back-pass.result es told.notes.items) (sym c.of_caller.ensures.entries)
    (subst (λ ns. HaveRun c.args.seed.now c.args.callers.pass c.args.callers.sections.now c.back-pass.result entries ns) (sym c.of_caller.ensures.notes)
    (one_runs g.M.Machine.lawful c.args.seed.now c.args.shared.now c.args.callers.pass c.back-pass.result c.args.callers.sections.now
    c.index-sections-0.result entries placed notes c.requires.can_run c.requires.one
    (slice_get_read c.args.callers.sections.now 1 0 c.index-sections-0.result (sym c.requires.one) (omega arith) c.index-sections-0.is)
    (subst (λ new. PassAfterCalls g.M.Machine.lawful c.args.callers.pass placed new) (sym ended)
    (subst (λ old. PassAfterCalls g.M.Machine.lawful old placed c.run_caller.new.port) begun ran.reached_by_call.reached_by_call))
    ran.reached_by_call.ranged
    ran.shown
    (subst (λ pass. IsRunOfSection c.args.seed.now pass.who c.index-sections-0.result placed) begun ran.run)
    (subst (λ pass. notes ≡ notes_of_section c.args.seed.now pass.who c.index-sections-0.result placed) begun ran.noted)
    c.who-caller.ensures.own))
