use Rattle.plain_tree.specs.NodesByNumber.{context_at}
use Rattle.mount_model.specs.PolicyAnswers.{policy_answer}
use Rattle.mount_model.specs.Walk.{walk_path}
use Rattle.mount_names.proofs.GivenLemmas.{policy_leaves, given_at}
use Rattle.mount_names.proofs.metadata.get_policy.Goals as goal

pub returns-in-Ok-clause-represents : goal.returns-in-Ok-clause-represents
returns-in-Ok-clause-represents g c = λ m st.
    let after = c.in-Ok.ensures.represents m st in
    given_at m (λ n. policy_answer m (context_at m.nodes n)) (λ n. policy_leaves m (context_at m.nodes n)) (walk_path m c.args.path.now) c.in-Ok.number (c.in-Ok.ensures.value m st)
    c.walked_node.new.state after c.policy_answer.result (c.policy_answer.ensures m after)
