use Rattle.std.proofs.Common.{◌≡◌, ◌∙◌}
use Rattle.number_map.specs.Numbered.{len}
use Rattle.mount_names.proofs.LenLemmas.{nodes_len}
use Rattle.mount_names.proofs.places.has_most_nodes.Goals as goal

pub returns : goal.returns
returns c = λ m st.
    let s = c.args.state.now in
    let as_many : c.node_count.result ≡ len m.nodes
    = c.node_count.ensures ∙ nodes_len s.disk s.next_node m st.well st.tree in
    cc
