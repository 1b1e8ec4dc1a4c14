use Rattle.std.proofs.Common.{◌≡◌, List, [], sym, ap, ◌∙◌, subst, arith}
use Rattle.std.proofs.lemmas.Option.{slice_get_read}
use Rattle.mount_shared.specs.SharedCalls.{MountPass}
use Rattle.fsc_commands.specs.declared.TheConstants.{MAX_CALLS}
use Rattle.fsc_session.specs.Session.{IsRunOfSection, notes_of_section}
use Rattle.mount_links.specs.declared.step.LinkStep.{LinkStep}
use Rattle.mount_links.specs.Linked.{own_parts, far_parts}
use Rattle.mount_links.specs.LinkCalls.{LinkView, link_view}
use Rattle.mount_links.specs.ShownParts.{logged_load}
use Rattle.script_runs.specs.Passes.{max_calls_of_sections}
use Rattle.linked_threads.specs.Threaded.{both}
use Rattle.linked_threads.proofs.OneLemmas.{odd_runs}
use Rattle.linked_threads.proofs.one.run_on_both.Goals as goal

pub returns : goal.returns
returns g c =
    let seed = c.args.seed.now in
    let even = c.args.callers.passes.even in
    let odd = c.args.callers.passes.odd in
    let calls = max_calls_of_sections MAX_CALLS c.args.callers.sections.now in
    let ran = c.in_ok-ran.ensures.ran in
    let placed = ran.placed in
    let entries = c.in_ok-ran.ran.entries in
    let section = c.index-sections-0.result in
    let notes = c.in_ok-told.told.notes.items in
    let port = c.in_ok-port.port in
    let back = c.back-own.ensures in
    let told = c.in_ok-told.ensures in
    let is : port ≡ link_view odd even calls [] = c.in_ok-port.ensures in
    odd_runs g.M.Machine.lawful g.N.Machine.lawful seed (both c.args.shared.now.even c.args.shared.now.odd) even odd c.args.callers.sections.now section
    c.requires.can_run c.requires.one (slice_get_read c.args.callers.sections.now 1 0 section (sym c.requires.one) (omega arith) c.index-sections-0.is)
    c.in_ok-told.told entries placed ran.shown
    (subst (λ w. IsRunOfSection seed w section placed) c.requires.can_run.same_caller
    (subst (λ (p : LinkView MountPass MountPass). IsRunOfSection seed p.own.who section placed) is ran.run))
    (subst (λ w. notes ≡ notes_of_section seed w section placed) c.requires.can_run.same_caller
    (subst (λ (p : LinkView MountPass MountPass). notes ≡ notes_of_section seed p.own.who section placed) is (told.notes ∙ ran.noted)))
    c.back-even.result c.back-odd.result port c.run_caller.new.port calls c.requires.odd is ran.reached_by_call
    (c.back-odd.ensures ∙ c.back.ensures ∙ back.own) (c.back-even.ensures ∙ c.back-2.ensures ∙ back.far) c.who-on_mount_1.ensures.own c.who-on_mount_0.ensures.own
    (told.even ∙ ap (λ (s : List LinkStep). far_parts s entries) back.steps)
    (told.odd ∙ ap (λ (s : List LinkStep). own_parts logged_load s entries) back.steps)
