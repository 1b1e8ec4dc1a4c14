-- The key is the beginning of its schedule, whose keys are prepared.
use Rattle.std.proofs.Common.{take, ap, sym, ◌∙◌}
use Rattle.aes_core.specs.RoundKeys.{round_keys}
use Rattle.aes_core.proofs.ScheduleLemmas.{take-round_keys}
use Rattle.aes_core.proofs.Aes256.set.Goals as goal

pub invariant_of-self : goal.invariant_of-self
invariant_of-self c = (
  c.write_round_keys.ensures
      ∙ ap round_keys (sym (ap (λ w. take 32 w) c.write_round_keys.ensures ∙ take-round_keys c.args.key.now c.requires)),
  c.write_forward_keys.ensures,
  c.write_inverse_keys.ensures,
)

pub returns : goal.returns
returns c = ap (λ w. take 32 w) c.write_round_keys.ensures ∙ take-round_keys c.args.key.now c.requires
