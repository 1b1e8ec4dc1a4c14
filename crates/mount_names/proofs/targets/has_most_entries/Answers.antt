use Rattle.std.proofs.Common.{◌≡◌, length, ◌∙◌}
use Rattle.plain_tree.specs.NodesByNumber.{children}
use Rattle.mount_names.proofs.LenLemmas.{entries_len}
use Rattle.mount_names.proofs.targets.has_most_entries.Goals as goal

pub returns : goal.returns
returns c = λ m st.
    let s = c.args.state.now in
    let as_many : c.entry_count.result ≡ length (children m.nodes c.args.dir)
    = c.entry_count.ensures ∙ entries_len s.disk s.next_node m st.well st.tree c.args.dir in
    cc
