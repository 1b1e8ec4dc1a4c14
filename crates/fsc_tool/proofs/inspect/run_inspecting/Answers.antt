use Rattle.std.proofs.Common.{refl}
use Rattle.fsc_tool.proofs.InspectLemmas.{inspection_is, listed_ends}
use Rattle.fsc_tool.proofs.inspect.run_inspecting.Goals as goal

pub returns-in-Ok-clause-inspected : goal.returns-in-Ok-clause-inspected
returns-in-Ok-clause-inspected g c = λ seeds.
    listed_ends _ _ _ _ c.in-Ok.text _ c.in-Ok.ensures.listed c.write_text.ensures refl

pub returns-in-Err-clause-inspected : goal.returns-in-Err-clause-inspected
returns-in-Err-clause-inspected g c = λ seeds.
    inspection_is _ _ _ _ c.in-Err.status refl (c.in-Err.ensures.ended (g.K.Sink.state c.args.sink.now) seeds)
