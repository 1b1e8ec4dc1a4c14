-- The power is the first byte of each column.
use Rattle.std.proofs.Common.{◌∷◌, []}
use Rattle.aes_core.specs.RoundKeys.{round_constant}
use Rattle.aes_core.proofs.key_schedule.round_constants.Goals as goal

pub returns : goal.returns
unfolding round_constant
returns c =
    let power = c.round_constant-power.ensures in
    (λ i. power i ∷ 0 ∷ 0 ∷ 0 ∷ power i ∷ 0 ∷ 0 ∷ 0 ∷ power i ∷ 0 ∷ 0 ∷ 0 ∷ power i ∷ 0 ∷ 0 ∷ 0 ∷ [])
