-- A number above the last is above all.
use Rattle.std.proofs.Common.{sym, ap, ◌∙◌}
use Rattle.std.specs.Option.{option_copied}
use borrow.Author.Tests.{ltb-true}
use Rattle.number_map.proofs.RowLemmas.{all_lower}
use Rattle.number_map.proofs.row.is_above.Goals as goal

pub returns-in-Some : goal.returns-in-Some
returns-in-Some g c = λ is. all_lower c.args.slots.now c.in-Some.last.now c.args.number c.requires
    (sym c.last.ensures.value ∙ ap option_copied c.in-Some.is) (ltb-true _ _ is)
