-- Numbers rise.
use Rattle.number_map.proofs.RowLemmas.{keys_rise}
use Rattle.number_map.proofs.rising.RisingMap.len.Goals as goal

pub returns-clause-rising : goal.returns-clause-rising
returns-clause-rising g c = rw (← c.self.view_is) (keys_rise c.self.inside.slots.items c.self.invariant.rising)
