use Rattle.mount_files.proofs.ClosingLemmas.{absent_gone}
use Rattle.mount_files.proofs.closes.hold_what_is_needed.Goals as goal

pub returns : goal.returns
returns c =
    let s = c.args.state.now in
    absent_gone s.disk s.ring s.inodes s.modes s.names s.handles.live s.forgets s.remembers c.claims-exact.ensures.secrets c.users_of-used.ensures.used
