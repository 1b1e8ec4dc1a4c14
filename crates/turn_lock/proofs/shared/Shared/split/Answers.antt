use Rattle.std.proofs.Common.{rules}
use Rattle.turn_lock.proofs.Sharing.{lower_is, upper_is}
use Rattle.turn_lock.proofs.shared.Shared.split.Goals as goal

pub invariant_of-new : goal.invariant_of-new
invariant_of-new g c =
    upper_is _ _ _ _ _ c.pass.invariant _ _ _ (search rules) (search rules) (search rules) (search rules)

pub invariant_of-pass : goal.invariant_of-pass
invariant_of-pass g c =
    lower_is _ _ _ _ _ c.pass.invariant _ _ _ (search rules) (search rules) (search rules) (search rules)
