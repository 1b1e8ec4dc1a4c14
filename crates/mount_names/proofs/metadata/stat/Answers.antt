use Rattle.number_map.specs.Numbered.{get}
use Rattle.mount_model.specs.LookAnswers.{stat_answer}
use Rattle.mount_model.specs.Walk.{walk_path}
use Rattle.mount_names.proofs.GivenLemmas.{node_leaves, given_at}
use Rattle.mount_names.proofs.metadata.stat.Goals as goal

pub returns-in-Ok-clause-represents : goal.returns-in-Ok-clause-represents
returns-in-Ok-clause-represents g c = λ m st.
    let after = c.in-Ok.ensures.represents m st in
    given_at m (λ n. stat_answer m n (get m.nodes n)) (λ n. node_leaves m n (get m.nodes n)) (walk_path m c.args.path.now) c.in-Ok.number (c.in-Ok.ensures.value m st)
    c.walked_node.new.state after c.stat_answer.result (c.stat_answer.ensures m after)
