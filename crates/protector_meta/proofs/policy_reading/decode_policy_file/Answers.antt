use Rattle.protector_meta.proofs.PolicyReadingLaws.{seen_found, seen_every, seen_bad, seen_only, seen_none}
use Rattle.protector_meta.proofs.policy_reading.decode_policy_file.Goals as goal

pub returns-clause-found : goal.returns-clause-found
returns-clause-found c = seen_found c.args.text.now c.read_policy.result c.read_policy.ensures

pub returns-clause-every : goal.returns-clause-every
returns-clause-every c = seen_every c.args.text.now c.read_policy.result c.read_policy.ensures

pub returns-clause-bad : goal.returns-clause-bad
returns-clause-bad c = seen_bad c.args.text.now c.read_policy.result c.read_policy.ensures

pub returns-clause-only : goal.returns-clause-only
returns-clause-only c = seen_only c.args.text.now c.read_policy.result c.read_policy.ensures

pub returns-clause-none : goal.returns-clause-none
returns-clause-none c = seen_none c.args.text.now c.read_policy.result c.read_policy.ensures
