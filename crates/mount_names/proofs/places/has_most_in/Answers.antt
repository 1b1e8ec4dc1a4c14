use Rattle.std.proofs.Common.{◌≡◌, length, Option, sym, ap, ◌∙◌}
use Rattle.plain_tree.specs.NodesByNumber.{children}
use Rattle.disk_tree.specs.DiskTree.{entries_in}
use Rattle.disk_tree.specs.declared.node.StoredNode.{StoredNode}
use Rattle.mount_names.proofs.LenLemmas.{entries_len}
use Rattle.mount_names.proofs.places.has_most_in.Goals as goal

pub returns : goal.returns
returns c = λ m st.
    let s = c.args.state.now in
    let as_many : c.entry_count.result ≡ length (children m.nodes c.args.dir)
    = c.entry_count.ensures
    ∙ (ap (λ (o : Option StoredNode). length (entries_in o)) (sym c.requires)
    ∙ entries_len s.disk s.next_node m st.well st.tree c.args.dir) in
    cc
