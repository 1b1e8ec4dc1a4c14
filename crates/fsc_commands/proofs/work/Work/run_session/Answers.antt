use Rattle.fsc_commands.proofs.WorkLemmas.{passes}
use Rattle.fsc_commands.proofs.work.Work.run_session.Goals as goal

pub returns-in-Pause : goal.returns-in-Pause
returns-in-Pause g c = rw c.in-Pause.is (passes g.met.P.MountPort.by_none c.args.caller.now)
