-- There are no slots.
use Rattle.std.proofs.Common.{rules}
use Rattle.number_map.proofs.RowLemmas.{none_rising}
use Rattle.number_map.proofs.rising.RisingMap.new.Goals as goal

pub invariant_of-result : goal.invariant_of-result
invariant_of-result g c = none_rising _ (search rules)
