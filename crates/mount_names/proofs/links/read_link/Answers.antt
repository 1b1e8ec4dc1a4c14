use Rattle.number_map.specs.Numbered.{get}
use Rattle.mount_model.specs.LookAnswers.{target_answer}
use Rattle.mount_model.specs.Walk.{walk_path}
use Rattle.mount_names.proofs.GivenLemmas.{target_leaves, told_at, due_at}
use Rattle.mount_names.proofs.links.read_link.Goals as goal

pub returns-in-Ok-clause-represents : goal.returns-in-Ok-clause-represents
returns-in-Ok-clause-represents g c = λ m st.
    let after = c.in-Ok.ensures.represents m st in
    told_at m (λ n. target_answer m n (get m.nodes n)) (λ n. target_leaves m n (get m.nodes n)) (walk_path m c.args.path.now) c.in-Ok.number (c.in-Ok.ensures.value m st)
    c.walked_node.new.state after c.link_reply.result (c.link_reply.ensures.told m after)

pub returns-in-Ok-clause-due : goal.returns-in-Ok-clause-due
returns-in-Ok-clause-due g c = λ m st.
    due_at m (λ n. target_answer m n (get m.nodes n)) (walk_path m c.args.path.now) c.in-Ok.number (c.in-Ok.ensures.value m st)
    c.link_reply.result (c.link_reply.ensures.due m (c.in-Ok.ensures.represents m st))
