use Rattle.std.proofs.Common.{◌<◌, sym, ap, ◌∙◌, subst}
use Rattle.user_claims.specs.Claims.{without_id}
use Rattle.user_claims.specs.ClaimCounts.{count_of_id}
use Rattle.user_claims.proofs.ClaimLemmas.{without_id-without_claim, without_id-none, count_of_id-fewer}
use Rattle.user_claims.proofs.claims.Claims.clear.Goals as goal

pub loop-uid-smaller : goal.loop-uid-smaller
loop-uid-smaller c =
    subst (λ cs. count_of_id cs c.args.id.now < count_of_id c.loop-uid.self c.args.id.now)
    (sym c.unclaim.ensures.gone)
    (count_of_id-fewer c.loop-uid.self c.args.id.now c.in-Some.uid c.in-Some.ensures.some)

pub loop-uid-preserved : goal.loop-uid-preserved
loop-uid-preserved c = ap (λ cs. without_id cs c.args.id.now) c.unclaim.ensures.gone
    ∙ (without_id-without_claim c.loop-uid.self c.args.id.now c.in-Some.uid ∙ c.loop-uid.invariant)

pub returns : goal.returns
returns c =
    sym (without_id-none c.loop-uid.self c.args.id.now c.in_default.ensures.none) ∙ c.loop-uid.invariant
