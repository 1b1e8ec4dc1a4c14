use Rattle.std.proofs.Common.{rules}
use Rattle.turn_lock.proofs.Passing.{joins, looks_at}
use Rattle.turn_lock.proofs.steps.merge.Goals as goal

pub join_seat-requires : goal.join_seat-requires
join_seat-requires g c = (
  search rules,
  search rules,
  search rules,
  search rules,
  joins _ _ _ _ _ _ _ (search rules) (search rules) (search rules) (search rules) (search rules)
      (search rules) (search rules) (search rules),
)

pub load-requires : goal.load-requires
load-requires g c = (
  search rules,
  search rules,
  looks_at _ _ _ _ _ _ (search rules) (search rules) (search rules)
      (search rules),
)
