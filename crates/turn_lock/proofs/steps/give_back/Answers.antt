use Rattle.std.proofs.Common.{rules, subst}
use Rattle.turn_lock.proofs.Calls.{releases_at}
use Rattle.turn_lock.proofs.steps.give_back.Goals as goal

pub swap-requires : goal.swap-requires
swap-requires g c = (
  search rules,
  search rules,
  releases_at _ _ _ _ _ _ c.args.held.value (search rules) (search rules)
      (subst (λ h. g.M.Machine.reaches h c.args.held.value) (search rules) c.requires.is_reached) (search rules),
)
