use Rattle.std.proofs.Common.{refl}
use Rattle.fsc_tool.proofs.TopLemmas.{text_ends, unrun_ends}
use Rattle.fsc_tool.proofs.LinkedLemmas.{linked_is}
use Rattle.fsc_tool.proofs.linked.replay_two.Goals as goal

pub returns-in-Err-clause-linked : goal.returns-in-Err-clause-linked
returns-in-Err-clause-linked g c = unrun_ends _ _ _ _ _ c.in-Err.status (c.in-Err.ensures.ended (g.K.Sink.state c.args.streams.now.sink))

pub returns-clause-linked : goal.returns-clause-linked
returns-clause-linked g c =
    text_ends _ _ _ _ _ c.deref.result.now.script c.deref-2.result.now.seed _ _
    (rw c.deref.ensures (rw c.deref-2.ensures c.in-Ok.ensures.prepared))
    (linked_is _ _ c.deref-2.result.now.seed c.deref.result.now.script c.in-Ok-ran.told.even.items c.in-Ok-ran.told.odd.items c.in-Ok-ran.told.notes.items _
    c.in-Ok-ran.ensures refl)
    c.finish_linked_replay.ensures
