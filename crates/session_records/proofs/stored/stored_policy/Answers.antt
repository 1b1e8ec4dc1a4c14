use Rattle.session_records.proofs.TextLemmas.{policy_text_is_short}
use Rattle.session_records.proofs.stored.stored_policy.Goals as goal

pub returns-clause-few : goal.returns-clause-few
returns-clause-few c = policy_text_is_short c.args.policy.now c.in_ok-text.text c.in_ok-text.ensures.text c.in_ok-text.ensures.in_form
