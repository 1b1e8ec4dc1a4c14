-- The places of the table are those of the row.
use Rattle.std.proofs.Common.{◌∙◌}
use Rattle.aes_core.proofs.RowLemmas.{third_row_places, third_row_found}
use Rattle.aes_core.proofs.unshifted_rows.third_unshifted_row.Goals as goal

pub shuffle-requires : goal.shuffle-requires
shuffle-requires c = third_row_places c.args.deferred c.requires

pub returns : goal.returns
returns c = c.shuffle.ensures ∙ third_row_found c.args.deferred c.requires c.args.state
