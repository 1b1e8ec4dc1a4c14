use Rattle.std.proofs.Common.{◌≡◌, true, sym, ap, ◌∙◌, subst}
use Rattle.user_claims.specs.Claims.{ClaimSet, has_claim}
use Rattle.user_claims.specs.ClaimCounts.{is_present}
use Rattle.user_claims.proofs.PresentLemmas.{is_present-without_claim_other}
use Rattle.key_ring.specs.Holding.{Holding, SecretMap, HoldsClaimedSecrets}
use Rattle.key_ring.specs.Kept.{secrets_of}
use Rattle.key_ring.proofs.RingLemmas.{exact_forgotten, exact_left, absent_at_zero, present_above_zero}
use Rattle.key_ring.proofs.ring.KeyRing.take_claim.Goals as goal

pub invariant_of-self : goal.invariant_of-self
invariant_of-self c = subst (λ (s : SecretMap). HoldsClaimedSecrets (record { claims = c.unclaim.new.self; secrets = s })) (sym c.forget.ensures)
    (exact_forgotten c.self.inside.claims (secrets_of c.self.inside.secrets.entries) c.self.invariant c.unclaim.new.self c.args.id.now
    (absent_at_zero c.unclaim.new.self c.args.id.now (sym c.count_of_id-left.ensures ∙ c.if-left-eq0.true))
    (λ q apart. ap (λ cs. is_present cs q) c.unclaim.ensures.gone ∙ is_present-without_claim_other c.self.inside.claims c.args.id.now c.args.uid q apart))

pub invariant_of-self-else-left-eq0 : goal.invariant_of-self-else-left-eq0
invariant_of-self-else-left-eq0 c =
    let held : has_claim c.self.inside.claims c.args.id.now c.args.uid ≡ true = subst (λ (ring : Holding). has_claim ring.claims c.args.id.now c.args.uid ≡ true) (sym c.self.view_is) c.requires.held in
    let left = subst (λ cs. is_present cs c.args.id.now ≡ true) c.unclaim.ensures.gone (present_above_zero c.unclaim.new.self c.args.id.now (λ none. c.if-left-eq0.false (c.count_of_id-left.ensures ∙ none))) in
    subst (λ (cs : ClaimSet). HoldsClaimedSecrets (record { claims = cs; secrets = secrets_of c.self.inside.secrets.entries })) (sym c.unclaim.ensures.gone)
    (exact_left c.self.inside.claims (secrets_of c.self.inside.secrets.entries) c.self.invariant c.args.id.now c.args.uid held left)
