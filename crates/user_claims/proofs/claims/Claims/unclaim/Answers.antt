use Rattle.std.proofs.Common.{sym, ap, ◌∙◌, subst}
use Rattle.user_claims.specs.Claims.{ClaimSet, has_claim, without_claim}
use Rattle.user_claims.specs.Counted.{set_of, IsCounted}
use Rattle.user_claims.proofs.KeptLemmas.{has_kept, set_of-removed, user_counted, id_counted}
use Rattle.user_claims.proofs.KeptLemmas.{IsCounted-removed}
use Rattle.user_claims.proofs.claims.Claims.unclaim.Goals as goal

pub one_less-requires : goal.one_less-requires
one_less-requires c = user_counted (set_of c.self.inside.claims.keys) c.self.inside.by_user c.self.inside.by_id c.args.id.now c.args.uid c.self.invariant
    (sym (has_kept c.self.inside.claims c.args.id.now c.args.uid c.remove-held.result c.remove-held.ensures.test) ∙ c.if-held.true)

pub one_less-requires-then-held : goal.one_less-requires-then-held
one_less-requires-then-held c = id_counted (set_of c.self.inside.claims.keys) c.self.inside.by_user c.self.inside.by_id c.args.id.now c.args.uid c.self.invariant
    (sym (has_kept c.self.inside.claims c.args.id.now c.args.uid c.remove-held.result c.remove-held.ensures.test) ∙ c.if-held.true)

pub invariant_of-self : goal.invariant_of-self
invariant_of-self c =
    subst (λ (cs : ClaimSet). IsCounted cs c.one_less.new.counts c.one_less-then-held.new.counts)
    (sym (set_of-removed c.self.inside.claims c.remove-held.new.self c.args.id.now c.args.uid c.remove-held.ensures.updates))
    (IsCounted-removed (set_of c.self.inside.claims.keys) c.self.inside.by_user c.one_less.new.counts c.self.inside.by_id c.one_less-then-held.new.counts c.args.id.now c.args.uid c.self.invariant
    (sym (has_kept c.self.inside.claims c.args.id.now c.args.uid c.remove-held.result c.remove-held.ensures.test) ∙ c.if-held.true)
    c.one_less.ensures c.one_less-then-held.ensures)

pub returns-then-held-clause-held : goal.returns-then-held-clause-held
returns-then-held-clause-held c =
    has_kept c.self.inside.claims c.args.id.now c.args.uid c.remove-held.result c.remove-held.ensures.test
    ∙ ap (λ cs. has_claim cs c.args.id.now c.args.uid) c.self.view_is

pub returns-then-held-clause-gone : goal.returns-then-held-clause-gone
returns-then-held-clause-gone c = set_of-removed c.self.inside.claims c.remove-held.new.self c.args.id.now c.args.uid c.remove-held.ensures.updates
    ∙ ap (λ cs. without_claim cs c.args.id.now c.args.uid) c.self.view_is

pub returns-else-held-clause-held : goal.returns-else-held-clause-held
returns-else-held-clause-held c =
    has_kept c.self.inside.claims c.args.id.now c.args.uid c.remove-held.result c.remove-held.ensures.test
    ∙ ap (λ cs. has_claim cs c.args.id.now c.args.uid) c.self.view_is

pub returns-else-held-clause-gone : goal.returns-else-held-clause-gone
returns-else-held-clause-gone c = set_of-removed c.self.inside.claims c.remove-held.new.self c.args.id.now c.args.uid c.remove-held.ensures.updates
    ∙ ap (λ cs. without_claim cs c.args.id.now c.args.uid) c.self.view_is
