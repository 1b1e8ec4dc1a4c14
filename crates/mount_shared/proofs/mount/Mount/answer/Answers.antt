use Rattle.mount_shared.proofs.mount.Mount.answer.Goals as goal

pub returns-clause-refused : goal.returns-clause-refused
returns-clause-refused c = c.answer.ensures.made.refused

pub returns-clause-sure : goal.returns-clause-sure
returns-clause-sure c = c.answer.ensures.made.sure

pub returns-clause-due : goal.returns-clause-due
returns-clause-due c = c.answer.ensures.made.due
