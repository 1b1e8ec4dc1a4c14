use Rattle.std.proofs.Common.{refl, ap, ◌∙◌}
use Rattle.mount_shared.specs.SerialCalls.{SerialView, serial_view}
use Rattle.fsc_commands.specs.declared.TheConstants.{MAX_CALLS}
use Rattle.script_runs.specs.MountPlaces.{at}
use Rattle.linked_turns.proofs.StepLemmas.{even_turn}
use Rattle.linked_turns.proofs.turn.step_on_mount_0.Goals as goal

pub returns : goal.returns
returns g c =
    even_turn g.M.Machine.reaches g.N.Machine.reaches c.args.seed.now c.args.mounts.even.machine c.args.mounts.even.places MAX_CALLS
    (at c.args.mounts.odd.machine c.args.mounts.odd.places) c.args.caller.now (record { runner = c.step.new.self; steps = c.args.caller.now.steps })
    c.over-port.result c.step.new.port c.back-2.result.machine c.back-2.result.places _ _ c.in_ok-step.field-0 c.requires.even
    (c.over-port.ensures ∙ c.port-port.ensures ∙ ap (λ who. serial_view c.args.mounts.even.machine c.args.mounts.even.places who MAX_CALLS) c.caller.ensures)
    (c.back-2.ensures.machine ∙ ap (λ (p : SerialView g.row.M.Denot). p.machine) c.back.ensures)
    (c.back-2.ensures.places ∙ ap (λ (p : SerialView g.row.M.Denot). p.places) c.back.ensures) refl c.in_ok-step.ensures.stepped
