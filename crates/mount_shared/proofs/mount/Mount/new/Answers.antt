use Rattle.mount_shared.proofs.StandsLemmas.{IsStateAfter-none}
use Rattle.mount_shared.proofs.mount.Mount.new.Goals as goal

pub returns : goal.returns
returns c = IsStateAfter-none c.in_ok-state.state c.in_ok-state.ensures
