use Rattle.fsc_tool.proofs.TopLemmas.{run_ends, unrun_ends}
use Rattle.fsc_tool.proofs.top.replay_in_threads.Goals as goal

pub returns-in-Err : goal.returns-in-Err
returns-in-Err g c = unrun_ends _ _ _ _ _ c.in-Err.status (c.in-Err.ensures.ended (g.K.Sink.state c.args.streams.now.sink))

pub returns : goal.returns
returns g c =
    run_ends _ _ _ _ _ c.deref.result.now.script c.deref-2.result.now.seed c.in-Ok-ran.told.entries.items c.in-Ok-ran.told.notes.items _
    (rw c.deref.ensures (rw c.deref-2.ensures c.in-Ok.ensures.prepared)) c.in-Ok-ran.ensures c.count-few.ensures.short c.finish.ensures
