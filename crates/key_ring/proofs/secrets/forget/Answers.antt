use Rattle.user_claims.proofs.ClaimOrder.{id_cmp_total, id_cmp-IsAntisymmetric}
use Rattle.key_counts.proofs.ShownLemmas.{shown-removed}
use Rattle.key_ring.specs.Kept.{SecretBox}
use Rattle.key_ring.proofs.secrets.forget.Goals as goal

pub returns-in-Some : goal.returns-in-Some
returns-in-Some c = shown-removed id_cmp_total (λ (s : SecretBox). s.value) id_cmp-IsAntisymmetric c.args.secrets.now c.remove.new.self c.args.id.now c.remove.ensures.updates.0

pub returns-in_default : goal.returns-in_default
returns-in_default c = shown-removed id_cmp_total (λ (s : SecretBox). s.value) id_cmp-IsAntisymmetric c.args.secrets.now c.remove.new.self c.args.id.now c.remove.ensures.updates.0
