use Rattle.std.proofs.Common.{rules, ◌≡◌, ◌∙◌}
use Rattle.mount_state.specs.KeyUse.{is_unlocked}
use Rattle.mount_state.proofs.StandLemmas.{keyed_stands}
use Rattle.mount_state.proofs.state.MountState.keyed_as.Goals as goal

pub returns-in-Some-clause-represents : goal.returns-in-Some-clause-represents
returns-in-Some-clause-represents c m st =
    let s = c.args.self.now in
    let told : c.keyed_under.result ≡ is_unlocked s.disk s.ring.claims s.handles.live c.args.node = search rules in
    told ∙ keyed_stands s.disk s.next_node m st.well st.tree s.ring.claims s.handles.live st.keys.claims st.handles.live c.args.node
