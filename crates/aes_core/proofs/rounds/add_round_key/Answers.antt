-- The words of a round key are its columns.
use Rattle.std.proofs.Common.{ap, ◌∙◌}
use Rattle.std.specs.Prelude.{bit_xor}
use Rattle.std.specs.Simd.Lanes.{zip2}
use Rattle.aes_core.proofs.LaneLemmas.{add_by_lanes}
use Rattle.aes_core.proofs.rounds.add_round_key.Goals as goal

pub returns : goal.returns
returns c = c.xor.ensures ∙ ap (λ v. zip2 bit_xor c.args.state v) c.round_key.ensures ∙ add_by_lanes c.args.keys.now c.args.round c.args.state c.fits-state.0
