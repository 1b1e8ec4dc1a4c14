-- 32 zeros are the beginning of their schedule, whose keys are prepared.
use Rattle.std.proofs.Common.{take, replicate, refl, ap, sym, ◌∙◌}
use Rattle.aes_core.specs.RoundKeys.{round_keys}
use Rattle.aes_core.specs.Basis.{forward_keys, inverse_keys}
use Rattle.aes_core.proofs.ScheduleLemmas.{take-round_keys}
use Rattle.aes_core.proofs.Aes256.zeros.Goals as goal

pub invariant_of-result : goal.invariant_of-result
invariant_of-result c = (
  c.round_keys_of_zeros.ensures
      ∙ ap round_keys (sym (ap (λ w. take 32 w) c.round_keys_of_zeros.ensures ∙ take-round_keys (replicate 32 0) refl)),
  c.forward_keys_of_zeros.ensures ∙ ap forward_keys (sym c.round_keys_of_zeros.ensures),
  c.inverse_keys_of_zeros.ensures ∙ ap inverse_keys (sym c.round_keys_of_zeros.ensures),
)

pub returns : goal.returns
returns c = ap (λ w. take 32 w) c.round_keys_of_zeros.ensures ∙ take-round_keys (replicate 32 0) refl
