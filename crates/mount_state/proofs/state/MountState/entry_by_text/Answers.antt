use Rattle.std.proofs.Common.{rules, ◌≡◌, ◌∙◌}
use Rattle.std.specs.Map.{lookup}
use Rattle.disk_tree.specs.DiskTree.{children}
use Rattle.mount_state.specs.Resolution.{is_text_of}
use Rattle.mount_state.proofs.LedLemmas.{locked_led}
use Rattle.mount_state.proofs.state.MountState.entry_by_text.Goals as goal

pub returns-in-Some-Dir-clause-represents : goal.returns-in-Some-Dir-clause-represents
returns-in-Some-Dir-clause-represents c m st locked =
    let s = c.args.self.now in
    let value : c.find_text.result ≡ lookup (is_text_of c.args.text.now) (children c.args.self.now.disk c.args.dir) = search rules in
    value ∙ locked_led s.disk s.next_node m st.well st.tree c.args.dir c.names_come_back.ensures.fit locked c.args.text.now
