use Rattle.std.proofs.Common.{sym, ◌∙◌}
use Rattle.user_claims.proofs.ClaimLemmas.{with_claim-held}
use Rattle.user_claims.proofs.claims.Claims.claim.Goals as goal

pub returns-then-has-clause-made : goal.returns-then-has-clause-made
returns-then-has-clause-made c =
    sym (with_claim-held c.args.self.now c.args.id.now c.args.uid (sym c.has.ensures ∙ c.if-has.true))
