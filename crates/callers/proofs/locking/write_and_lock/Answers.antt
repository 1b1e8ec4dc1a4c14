use Rattle.std.proofs.Common.{rules, ◌≡◌, ap, subst, ◌∙◌}
use Rattle.user_claims.specs.Claims.{ClaimSet, no_claims, with_claim, without_claim}
use Rattle.user_claims.proofs.ClaimLemmas.{has_claim-none, without-with_claim}
use Rattle.mount_model.specs.declared.call.Op.TheVariants.{KeyStatus}
use Rattle.mount_model.specs.ClaimReplies.{ReportsClaims}
use Rattle.callers.proofs.locking.write_and_lock.Goals as goal

pub returns-clause-claims : goal.returns-clause-claims
returns-clause-claims c =
    let id = c.in_ok-id.id in
    let began : c.in_ok-mount.mount.state.ring.claims ≡ no_claims = search rules in
    c.in_ok-id.ensures.claims
    ∙ ap (λ (claims : ClaimSet). without_claim (with_claim claims id 1000) id 1000) began
    ∙ without-with_claim no_claims id 1000 (has_claim-none id 1000)

pub returns-clause-reported : goal.returns-clause-reported
returns-clause-reported c =
    let id = c.in_ok-id.id in
    let began : c.in_ok-mount.mount.state.ring.claims ≡ no_claims = search rules in
    subst (λ (claims : ClaimSet). ReportsClaims claims 1000 (KeyStatus id) c.in_ok-id.status)
    (c.in_ok-id.ensures.claims
    ∙ ap (λ (claims : ClaimSet). without_claim (with_claim claims id 1000) id 1000) began
    ∙ without-with_claim no_claims id 1000 (has_claim-none id 1000))
    c.in_ok-id.ensures.reported
