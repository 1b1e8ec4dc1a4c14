use Rattle.log_check.proofs.RepliedLemmas.{unreplied}
use Rattle.log_check.proofs.read_reply.after_reply.Goals as goal

pub returns-in-None : goal.returns-in-None
returns-in-None g c =
    unreplied _ _ g.met.T.OneThread.reached_lawful _ _ _ _ _ _ _ c.requires.out_of_memory_at c.put_reply.ensures c.answer-reply.ensures.reached_by
    (c.reports_no_memory.ensures c.if-reports_no_memory.false) (rw c.in-None.is at c.in_ok-behind-2.ensures) (rw c.in_default.is at c.in_ok-behind.ensures)
