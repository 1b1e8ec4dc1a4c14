use Rattle.std.proofs.Common.{refl}
use Rattle.fsc_tool.proofs.TopLemmas.{text_ends, unrun_ends, want_ends}
use Rattle.fsc_tool.proofs.dump.run_dumping.Goals as goal

pub returns-in-Err-clause-dumped : goal.returns-in-Err-clause-dumped
returns-in-Err-clause-dumped g c = unrun_ends _ _ _ _ _ c.in-Err.status (c.in-Err.ensures.ended (g.K.Sink.state c.args.streams.now.sink))

pub returns-in-Err-ran-clause-dumped : goal.returns-in-Err-ran-clause-dumped
returns-in-Err-ran-clause-dumped g c =
    want_ends _ _ _ _ _ c.deref.result.now.script c.deref-2.result.now.seed (rw c.deref.ensures (rw c.deref-2.ensures c.in-Ok.ensures.prepared)) refl

pub returns-in-Ok-image_of-clause-dumped : goal.returns-in-Ok-image_of-clause-dumped
returns-in-Ok-image_of-clause-dumped g c =
    text_ends _ _ _ _ _ c.deref.result.now.script c.deref-2.result.now.seed c.in-Ok-image_of.text _
    (rw c.deref.ensures (rw c.deref-2.ensures c.in-Ok.ensures.prepared))
    (c.in-Ok-image_of.ensures c.deref-2.result.now.seed c.deref.result.now.script c.in-Ok-ran.ensures) c.write_text.ensures

pub returns-clause-dumped : goal.returns-clause-dumped
returns-clause-dumped g c =
    want_ends _ _ _ _ _ c.deref.result.now.script c.deref-2.result.now.seed (rw c.deref.ensures (rw c.deref-2.ensures c.in-Ok.ensures.prepared)) refl
