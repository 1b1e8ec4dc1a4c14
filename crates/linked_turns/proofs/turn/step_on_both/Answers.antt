use Rattle.std.proofs.Common.{[], ◌*◌, ap, ◌∙◌}
use Rattle.mount_shared.specs.SerialCalls.{serial_view}
use Rattle.fsc_commands.specs.declared.TheConstants.{MAX_CALLS}
use Rattle.mount_links.specs.LinkCalls.{link_view}
use Rattle.script_runs.specs.MountPlaces.{at}
use Rattle.linked_turns.proofs.StepLemmas.{odd_turn, ok_then}
use Rattle.linked_turns.proofs.turn.step_on_both.Goals as goal

pub returns : goal.returns
returns g c =
    let old_even = c.args.mounts.even in
    let old_odd = c.args.mounts.odd in
    let back = c.mounts_back.ensures in
    ok_then c.mounts_back.result back.even back.odd back.steps (λ after even odd steps.
    odd_turn g.M.Machine.reaches g.N.Machine.reaches c.args.seed.now (at old_even.machine old_even.places) (at old_odd.machine old_odd.places) (2 * MAX_CALLS) MAX_CALLS MAX_CALLS
    c.args.caller.now (record { runner = c.step.new.self; steps = c.mounts_back.new.steps })
    c.in_ok-port.port c.step.new.port (at after.even.machine after.even.places) (at after.odd.machine after.odd.places) _ _
    c.in_ok-step.field-0 c.requires.odd
    (c.in_ok-port.ensures
    ∙ ap (λ who. link_view (serial_view old_odd.machine old_odd.places who (2 * MAX_CALLS)) (serial_view old_even.machine old_even.places who MAX_CALLS) MAX_CALLS [])
    c.caller.ensures)
    odd.0 odd.1 even.0 even.1 steps
    c.in_ok-step.ensures.stepped)
