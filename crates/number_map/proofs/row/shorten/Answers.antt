-- If slots without a value are many, all of them are dropped.
use Rattle.std.proofs.Common.{◌∙◌, ap}
use Rattle.number_map.specs.Rising.{pairs_of_slots}
use Rattle.number_map.proofs.RowLemmas.{kept_filled, sorted_kept}
use Rattle.number_map.proofs.row.shorten.Goals as goal

pub returns-then-len-saturating_add-clause-same : goal.returns-then-len-saturating_add-clause-same
returns-then-len-saturating_add-clause-same g c =
    ap pairs_of_slots c.drop_vacant.ensures ∙ kept_filled c.pop_vacant.new.slots.items ∙ c.pop_vacant.ensures.same

pub returns-then-len-saturating_add-clause-rising : goal.returns-then-len-saturating_add-clause-rising
returns-then-len-saturating_add-clause-rising g c = λ sorted.
    rw c.drop_vacant.ensures (sorted_kept c.pop_vacant.new.slots.items (c.pop_vacant.ensures.rising sorted))
