use Rattle.mount_model.specs.Walk.{walk_path}
use Rattle.mount_model.specs.ListAnswers.{page_at}
use Rattle.mount_names.proofs.GivenLemmas.{told_at, due_at}
use Rattle.mount_names.proofs.ListedLemmas.{page_leaves}
use Rattle.mount_names.proofs.listings.list.Goals as goal

pub returns-in-Ok-clause-represents : goal.returns-in-Ok-clause-represents
returns-in-Ok-clause-represents g c = λ m st.
    let after = c.in-Ok.ensures.represents m st in
    told_at m (page_at m c.args.start) (page_leaves m c.args.start) (walk_path m c.args.path.now) c.in-Ok.number (c.in-Ok.ensures.value m st)
    c.walked_node.new.state after c.page_reply.result (c.page_reply.ensures.told m after)

pub returns-in-Ok-clause-due : goal.returns-in-Ok-clause-due
returns-in-Ok-clause-due g c = λ m st.
    due_at m (page_at m c.args.start) (walk_path m c.args.path.now) c.in-Ok.number (c.in-Ok.ensures.value m st)
    c.page_reply.result (c.page_reply.ensures.due m (c.in-Ok.ensures.represents m st))
