-- A map is made of its entries, and has the same values as the other.
use Rattle.number_map.proofs.AgreementLemmas.{agree_entries, agree_entries_by}
use Rattle.number_map.proofs.laws.entries_agree_where_maps_do.Goals as goal

pub returns-clause-values : goal.returns-clause-values
returns-clause-values g c f = agree_entries f

pub returns-clause-numbered : goal.returns-clause-numbered
returns-clause-numbered g c f = agree_entries_by f
