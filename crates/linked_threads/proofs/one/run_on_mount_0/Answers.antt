use Rattle.std.proofs.Common.{◌≡◌, sym, ◌∙◌, subst, arith}
use Rattle.std.proofs.lemmas.Option.{slice_get_read}
use Rattle.mount_shared.specs.SharedCalls.{MountPass, PassAfterCalls}
use Rattle.script_runs.specs.InRange.{RangedAfterCalls}
use Rattle.fsc_session.specs.Session.{IsRunOfSection, notes_of_section}
use Rattle.linked_threads.specs.Threaded.{both}
use Rattle.linked_threads.proofs.OneLemmas.{even_runs}
use Rattle.linked_threads.proofs.one.run_on_mount_0.Goals as goal

pub returns : goal.returns
returns g c =
    let seed = c.args.seed.now in
    let ran = c.in_ok-ran.ensures.ran in
    let placed = ran.placed in
    let section = c.index-sections-0.result in
    let notes = c.into_vec-2.result.items in
    let begun = c.over-port.ensures ∙ c.new-port.ensures in
    let ended = c.back-even.ensures ∙ c.back.ensures in
    even_runs g.M.Machine.lawful g.N.Machine.lawful seed (both c.args.shared.now.even c.args.shared.now.odd) c.args.callers.passes.even c.args.callers.passes.odd c.args.callers.sections.now section
    c.requires.can_run c.requires.one (slice_get_read c.args.callers.sections.now 1 0 section (sym c.requires.one) (omega arith) c.index-sections-0.is)
    (record { even = c.into_vec.result; odd = c.new.result; notes = c.into_vec-2.result }) c.in_ok-ran.ran.entries placed ran.shown
    (subst (λ (pass : MountPass). IsRunOfSection seed pass.who section placed) begun ran.run)
    (subst (λ (pass : MountPass). notes ≡ notes_of_section seed pass.who section placed) begun (c.into_vec-2.ensures ∙ ran.noted))
    c.back-even.result c.requires.even
    (subst (λ new. RangedAfterCalls (PassAfterCalls g.M.Machine.lawful) c.args.callers.passes.even placed new) (sym ended)
    (subst (λ old. RangedAfterCalls (PassAfterCalls g.M.Machine.lawful) old placed c.run_caller.new.port) begun ran.reached_by_call))
    c.who-caller.ensures.own c.into_vec.ensures c.new.ensures.items
