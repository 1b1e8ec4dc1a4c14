-- Reading gives the value of the record's text, and faults exactly as its lines do.
use Rattle.std.proofs.Common.{ap, ◌∙◌}
use Rattle.protector_meta.specs.ProtectorReading.{protector_read}
use Rattle.protector_meta.proofs.ProtectorLaws.{IfOk-found, IfErr-bad, IfErr-none, IfErr-only, protector_again}
use Rattle.protector_meta.proofs.protector_text.decode_protector.Goals as goal

pub returns-clause-found : goal.returns-clause-found
returns-clause-found c = IfOk-found _ _ c.read_protector.ensures

pub returns-clause-every : goal.returns-clause-every
returns-clause-every c = λ p h is. c.read_protector.ensures ∙ ap protector_read is ∙ protector_again p h

pub returns-clause-bad : goal.returns-clause-bad
returns-clause-bad c = IfErr-bad _ _ c.read_protector.ensures

pub returns-clause-only : goal.returns-clause-only
returns-clause-only c = IfErr-only _ _ c.read_protector.ensures

pub returns-clause-none : goal.returns-clause-none
returns-clause-none c = IfErr-none _ _ c.read_protector.ensures
