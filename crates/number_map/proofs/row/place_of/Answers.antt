-- The number has no slot at the place where it would be put.
use Rattle.std.proofs.Common.{◌≡◌, true, false, refl}
use Rattle.number_map.proofs.RowSteps.{not_found, none_above}
use Rattle.number_map.proofs.row.place_of.Goals as goal

pub returns-then-is_above-clause-none : goal.returns-then-is_above-clause-none
returns-then-is_above-clause-none g c = none_above c.args.slots.now c.args.number (c.if-is_above.ensures refl)

pub returns-clause-none : goal.returns-clause-none
returns-clause-none g c =
    not_found c.args.slots.now c.lower_count-at.result c.args.number c.requires c.lower_count-at.ensures.lower c.lower_count-at.ensures.others
    (λ there. let bad : false ≡ true = c.if-has-3.ensures.1 there in absurd (cc))
