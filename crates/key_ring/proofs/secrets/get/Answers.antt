use Rattle.std.proofs.Common.{Some, sym, ap, ◌∙◌}
use Rattle.std.specs.Prelude.{option_map}
use Rattle.key_ring.specs.Kept.{SecretBox}
use Rattle.user_claims.proofs.ClaimOrder.{id_cmp_total}
use Rattle.key_counts.proofs.ShownLemmas.{get-shown}
use Rattle.key_ring.proofs.secrets.get.Goals as goal

pub returns-in-Some : goal.returns-in-Some
returns-in-Some c =
    ap Some c.deref.ensures ∙ (ap (option_map (λ (s : SecretBox). s.value)) c.in-Some.ensures.value ∙ sym (get-shown id_cmp_total (λ (s : SecretBox). s.value) c.args.secrets.now.entries c.args.id.now))

pub returns-in-None : goal.returns-in-None
returns-in-None c =
    ap (option_map (λ (s : SecretBox). s.value)) c.in-None.ensures.value ∙ sym (get-shown id_cmp_total (λ (s : SecretBox). s.value) c.args.secrets.now.entries c.args.id.now)
