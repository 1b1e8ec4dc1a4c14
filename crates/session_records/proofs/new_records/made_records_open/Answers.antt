use Rattle.session_records.proofs.AddedWrapLemmas.{added_protectors_open, earlier_protectors_open}
use Rattle.session_records.proofs.OpeningLemmas.{protector_opens, changed_opens, policy_opens, wrap_opens, policies_named}
use Rattle.session_records.proofs.new_records.made_records_open.Goals as goal

pub returns-clause-protectors : goal.returns-clause-protectors
returns-clause-protectors c = protector_opens c.unwrapping_undoes_wrapping.ensures.opens

pub returns-clause-wraps : goal.returns-clause-wraps
returns-clause-wraps c = wrap_opens c.unwrapping_undoes_wrapping.ensures.opens

pub returns-clause-changed : goal.returns-clause-changed
returns-clause-changed c = changed_opens c.unwrapping_undoes_wrapping.ensures.opens

pub returns-clause-named : goal.returns-clause-named
returns-clause-named c = policies_named

pub returns-clause-policies : goal.returns-clause-policies
returns-clause-policies c = policy_opens c.unwrapping_undoes_wrapping.ensures.opens

pub returns-clause-added : goal.returns-clause-added
returns-clause-added c = added_protectors_open c.unwrapping_undoes_wrapping.ensures.opens

pub returns-clause-earlier : goal.returns-clause-earlier
returns-clause-earlier c = earlier_protectors_open
