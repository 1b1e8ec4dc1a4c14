use Rattle.std.proofs.Common.{rules, ◌++◌, refl}
use Rattle.atomic_table.specs.Table.{keeps}
use Rattle.turn_lock.proofs.recorder.Recorder.add.Goals as goal

pub load-requires : goal.load-requires
load-requires g c = (
  search rules,
  search rules,
  λ s kept long at small.
      (c.self.inside.seat.me.0 ++ g.K.RecordsSteps.said, keeps, tt, tt, refl),
)
