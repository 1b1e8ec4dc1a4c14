use Rattle.std.proofs.Common.{◌≡◌, Some, sym, subst, ◌∙◌}
use Rattle.std.specs.Prelude.{Option}
use Rattle.mount_model.specs.declared.call.Op.{Op}
use Rattle.fsc_commands.specs.Commands.{single_call, task_steps}
use Rattle.fsc_commands.specs.Tasks.{Task}
use Rattle.fsc_commands.specs.Tasks.Task.{Single, Session, Idle}
use Rattle.fsc_commands.specs.Work.{WorkResult}
use Rattle.fsc_commands.proofs.work.Work.run.Goals as goal

-- a command with a call is just that call
single_is : (task : Task) (asked : Op) (call : Option Op) → call ≡ Some asked → call ≡ single_call task → Single asked ≡ task
single_is (Single other) asked call is plain = cc (sym is ∙ plain)
single_is (Session steps) asked call is plain = absurd (cc (sym is ∙ plain))
single_is Idle asked call is plain = absurd (cc (sym is ∙ plain))

pub returns-in-Some : goal.returns-in-Some
returns-in-Some g c =
    subst (λ (task : Task). WorkResult g.P.MountPort.after_calls g.P.MountPort.who g.P.MountPort.calls_left c.args.caller.now c.make_call.new.caller 4
    (task_steps c.args.self.now.turn.caller c.args.self.now.turn.uid task) c.make_call.result) (single_is _ c.in-Some.op _ c.in-Some.is c.in_ok-op.ensures.value) c.make_call.ensures
