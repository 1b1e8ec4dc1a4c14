use Rattle.call_history.specs.Entries.{entry}
use Rattle.mount_files.specs.Pending.{reply_of}
use Rattle.mount_shared.proofs.StandsLemmas.{IsStateAfter-more}
use Rattle.mount_shared.proofs.mount.MountMachineImpl.begin.Goals as goal

pub returns-clause-reaches : goal.returns-clause-reaches
returns-clause-reaches c history reached_by =
    IsStateAfter-more history (entry c.args.who c.args.call.now (reply_of c.answer.result)) c.args.self.now.state c.answer.new.self.state reached_by
    c.answer.ensures.made
