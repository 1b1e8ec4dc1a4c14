-- The places of the table are those of the rotation.
use Rattle.std.proofs.Common.{◌∙◌}
use Rattle.aes_core.proofs.RowLemmas.{rotation_places, rotation_found}
use Rattle.aes_core.proofs.unshifted_rows.rotate_rows.Goals as goal

pub shuffle-requires : goal.shuffle-requires
shuffle-requires c = rotation_places c.args.times c.requires

pub returns : goal.returns
returns c = c.shuffle.ensures ∙ rotation_found c.args.times c.requires c.args.state
