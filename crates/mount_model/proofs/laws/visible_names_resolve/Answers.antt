use Rattle.mount_model.proofs.ShownLemmas as lemmas
use Rattle.mount_model.proofs.laws.visible_names_resolve.Goals as goal

pub returns-clause-inherited : goal.returns-clause-inherited
returns-clause-inherited c = lemmas.inherited

pub returns-clause-apart : goal.returns-clause-apart
returns-clause-apart c = lemmas.apart

pub returns-clause-lead : goal.returns-clause-lead
returns-clause-lead c = lemmas.shown_leads

pub returns-clause-only : goal.returns-clause-only
returns-clause-only c = lemmas.only_shown
