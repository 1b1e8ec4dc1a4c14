use Rattle.std.proofs.Common.{ap, ◌∙◌}
use Rattle.mount_shared.specs.SerialCalls.{SerialView, serial_view}
use Rattle.fsc_commands.specs.declared.TheConstants.{MAX_CALLS}
use Rattle.script_runs.specs.MountPlaces.{at}
use Rattle.script_runs.proofs.RotationLemmas.{turn_by}
use Rattle.script_runs.proofs.rotation.step.Goals as goal

pub returns : goal.returns
returns g c =
    let machine = c.args.mount.machine in
    let places = c.args.mount.places in
    turn_by g.M.Machine.reaches c.args.seed.now (at machine places) MAX_CALLS c.args.runner.now c.step.new.self
    c.over-port.result c.step.new.port (at c.back-2.result.machine c.back-2.result.places) _ _ c.in_ok-step.field-0
    (c.over-port.ensures ∙ c.port-port.ensures ∙ ap (λ who. serial_view machine places who MAX_CALLS) c.caller.ensures)
    (c.back-2.ensures.machine ∙ ap (λ (p : SerialView g.row.M.Denot). p.machine) c.back.ensures)
    (c.back-2.ensures.places ∙ ap (λ (p : SerialView g.row.M.Denot). p.places) c.back.ensures)
    c.in_ok-step.ensures.stepped
