-- The places of the table are those of the row.
use Rattle.std.proofs.Common.{◌∙◌}
use Rattle.aes_core.proofs.RowLemmas.{next_row_places, next_row_found}
use Rattle.aes_core.proofs.unshifted_rows.next_unshifted_row.Goals as goal

pub shuffle-requires : goal.shuffle-requires
shuffle-requires c = next_row_places c.args.deferred c.requires

pub returns : goal.returns
returns c = c.shuffle.ensures ∙ next_row_found c.args.deferred c.requires c.args.state
