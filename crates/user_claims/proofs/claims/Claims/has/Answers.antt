use Rattle.std.proofs.Common.{sym, ap, ◌∙◌}
use Rattle.user_claims.specs.Claims.{has_claim}
use Rattle.user_claims.proofs.KeptLemmas.{contains-set_of}
use Rattle.user_claims.proofs.claims.Claims.has.Goals as goal

pub returns : goal.returns
returns c = c.contains.ensures ∙ (sym (contains-set_of c.self.inside.claims.keys (c.args.id.now, c.args.uid))
    ∙ ap (λ cs. has_claim cs c.args.id.now c.args.uid) c.self.view_is)
