use Rattle.std.proofs.Common.{◌∙◌}
use Rattle.mount_state.proofs.LedLemmas.{plain_led}
use Rattle.mount_state.proofs.state.MountState.entry_by_name.Goals as goal

pub returns-clause-represents : goal.returns-clause-represents
returns-clause-represents c m st none =
    let s = c.args.self.now in
    c.entry.ensures ∙ plain_led s.disk s.next_node m st.well st.tree c.args.dir c.args.name.now none
