use Rattle.std.proofs.Common.{rules}
use Rattle.turn_lock.proofs.Passing.{splits}
use Rattle.turn_lock.proofs.steps.cut.Goals as goal

pub split_seat-requires : goal.split_seat-requires
split_seat-requires g c = (
  search rules,
  search rules,
  splits _ _ _ _ _ g.P.Parts.at g.P.Parts.give
      (rw c.requires.parts.0 c.requires.numbers.0) (rw c.requires.parts.0 c.requires.numbers.1)
      (rw c.requires.parts.1 c.requires.numbers.2) (search rules) (search rules),
)
