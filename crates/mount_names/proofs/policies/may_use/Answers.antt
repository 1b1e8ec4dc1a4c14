-- A user with a claim on a key makes it present.
use Rattle.std.proofs.Common.{sym, ap, ◌∙◌}
use Rattle.user_claims.specs.Claims.{ClaimSet, has_claim}
use Rattle.user_claims.proofs.PresentLemmas.{is_present-held}
use Rattle.mount_names.proofs.policies.may_use.Goals as goal

pub returns-clause-present : goal.returns-clause-present
returns-clause-present c = λ is.
    is_present-held c.args.state.now.ring.claims c.args.id.now c.args.uid
    (ap (λ (cs : ClaimSet). has_claim cs c.args.id.now c.args.uid) (sym c.claims-2.ensures.claims) ∙ (sym c.has.ensures ∙ is))
