-- The closure returns whether a slot has a value.
use Rattle.std.proofs.Common.{rules}
use Rattle.std.proofs.lemmas.Fn.{filter_same}
use Rattle.number_map.proofs.RowLemmas.{is_filled}
use Rattle.number_map.proofs.row.drop_vacant.Goals as goal

pub returns : goal.returns
returns g c = filter_same _ is_filled _ (λ x b f k. search rules) _ _ c.retain.ensures.filtered
