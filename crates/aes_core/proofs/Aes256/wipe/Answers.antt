-- 32 zeros are the beginning of their schedule, whose keys are prepared.
use Rattle.std.proofs.Common.{take, replicate, refl, ap, sym, ◌∙◌}
use Rattle.aes_core.specs.RoundKeys.{round_keys}
use Rattle.aes_core.specs.Basis.{forward_keys, inverse_keys}
use Rattle.aes_core.proofs.ScheduleLemmas.{take-round_keys}
use Rattle.aes_core.proofs.Aes256.wipe.Goals as goal

pub invariant_of-self : goal.invariant_of-self
invariant_of-self c = (
  c.round_keys_of_zeros-self-inside.ensures
      ∙ ap round_keys (sym (ap (λ w. take 32 w) c.round_keys_of_zeros-self-inside.ensures ∙ take-round_keys (replicate 32 0) refl)),
  c.forward_keys_of_zeros-self-inside.ensures ∙ ap forward_keys (sym c.round_keys_of_zeros-self-inside.ensures),
  c.inverse_keys_of_zeros-self-inside.ensures ∙ ap inverse_keys (sym c.round_keys_of_zeros-self-inside.ensures),
)

pub returns : goal.returns
returns c = ap (λ w. take 32 w) c.round_keys_of_zeros-self-inside.ensures ∙ take-round_keys (replicate 32 0) refl
