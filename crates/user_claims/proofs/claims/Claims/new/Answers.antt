use Rattle.std.proofs.Common.{sym, ap, subst}
use Rattle.user_claims.specs.Claims.{ClaimSet}
use Rattle.user_claims.specs.Counted.{set_of, IsCounted}
use Rattle.user_claims.proofs.KeptLemmas.{IsCounted-none}
use Rattle.user_claims.proofs.claims.Claims.new.Goals as goal

pub invariant_of-result : goal.invariant_of-result
invariant_of-result c =
    subst (λ (cs : ClaimSet). IsCounted cs c.new-2.result c.new-3.result)
    (sym (ap set_of c.new.ensures.empty))
    (IsCounted-none c.new-2.result c.new-3.result c.new-2.ensures.empty c.new-3.ensures.empty)
