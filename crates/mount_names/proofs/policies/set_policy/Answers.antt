use Rattle.mount_model.specs.Walk.{walk_path}
use Rattle.mount_model.specs.PolicyAnswers.{answer_to_set_at}
use Rattle.mount_names.proofs.GivenLemmas.{answered_at, due_at}
use Rattle.mount_names.proofs.SetLemmas.{set_policy_well}
use Rattle.mount_state.proofs.PassedEntryLemmas.{same_names}
use Rattle.mount_names.proofs.policies.set_policy.Goals as goal

pub returns-in-Ok-clause-represents : goal.returns-in-Ok-clause-represents
returns-in-Ok-clause-represents g c = λ m st fits.
    let led = c.in-Ok.ensures.value m st in
    answered_at m (answer_to_set_at m c.args.uid c.args.policy.now c.args.nonce.now) (walk_path m c.args.path.now) c.in-Ok.number led _ c.set_at.result
    (c.set_at.ensures.represents m (c.in-Ok.ensures.represents m st)
    (set_policy_well m c.args.uid c.args.path.now c.args.policy.now c.args.nonce.now c.in-Ok.number led st.well fits))

pub returns-in-Ok-clause-due : goal.returns-in-Ok-clause-due
returns-in-Ok-clause-due g c = λ m st.
    due_at m (answer_to_set_at m c.args.uid c.args.policy.now c.args.nonce.now) (walk_path m c.args.path.now) c.in-Ok.number (c.in-Ok.ensures.value m st) c.set_at.result
    (c.set_at.ensures.due m (c.in-Ok.ensures.represents m st))

pub returns-in-Ok-clause-brought : goal.returns-in-Ok-clause-brought
returns-in-Ok-clause-brought g c = λ m st pair is.
    c.in-Ok.ensures.brought m st pair (same_names _ _ c.set_at.ensures.names pair is)
