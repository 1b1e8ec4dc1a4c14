use Rattle.std.proofs.Common.{sym, ap, ◌∙◌, subst}
use Rattle.user_claims.specs.ClaimCounts.{is_present}
use Rattle.user_claims.proofs.PresentLemmas.{is_present-without_id, is_present-without_id_other}
use Rattle.key_ring.specs.Holding.{SecretMap, HoldsClaimedSecrets}
use Rattle.key_ring.specs.Kept.{secrets_of}
use Rattle.key_ring.proofs.RingLemmas.{exact_forgotten}
use Rattle.key_ring.proofs.ring.KeyRing.clear.Goals as goal

pub invariant_of-self : goal.invariant_of-self
invariant_of-self c = subst (λ (s : SecretMap). HoldsClaimedSecrets (record { claims = c.clear.new.self; secrets = s })) (sym c.forget.ensures)
    (exact_forgotten c.self.inside.claims (secrets_of c.self.inside.secrets.entries) c.self.invariant c.clear.new.self c.args.id.now
    (ap (λ cs. is_present cs c.args.id.now) c.clear.ensures ∙ is_present-without_id c.self.inside.claims c.args.id.now)
    (λ q apart. ap (λ cs. is_present cs q) c.clear.ensures ∙ is_present-without_id_other c.self.inside.claims c.args.id.now q apart))
