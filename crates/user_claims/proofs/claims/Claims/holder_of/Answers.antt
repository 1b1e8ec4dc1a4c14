use Rattle.std.proofs.Common.{◌≡◌, true, refl, sym, ap, ◌∙◌, subst}
use Rattle.policy_ctx.specs.declared.policy.KeyId.{KeyId}
use Rattle.user_claims.specs.Claims.{has_claim}
use Rattle.policy_ctx.proofs.KeyIdLemmas.{same_id-eq}
use Rattle.user_claims.proofs.KeptLemmas.{has_kept}
use Rattle.user_claims.proofs.FirstLemmas.{none_behind, first_there, none_but_others}
use Rattle.user_claims.proofs.claims.Claims.holder_of.Goals as goal

pub returns-in-Some-clause-some : goal.returns-in-Some-clause-some
returns-in-Some-clause-some c =
    let there = first_there c.self.inside.claims c.args.id.now c.range.result
    (c.range.ensures.in_range tt) c.in-Some.claim.now c.next.new.self c.in-Some.ensures.steps in
    let same = same_id-eq c.in-Some.claim.now.0 c.args.id.now (sym c.eq.ensures ∙ c.if-eq.true) in
    let held : has_claim c.args.self.now c.in-Some.claim.now.0 c.in-Some.claim.now.1 ≡ true =
    sym (ap (λ cs. has_claim cs c.in-Some.claim.now.0 c.in-Some.claim.now.1) c.self.view_is)
    ∙ (sym (has_kept c.self.inside.claims c.in-Some.claim.now.0 c.in-Some.claim.now.1 _ refl) ∙ there) in
    subst (λ (k : KeyId). has_claim c.args.self.now k c.in-Some.claim.now.1 ≡ true) same held

pub returns-in_default-clause-none : goal.returns-in_default-clause-none
returns-in_default-clause-none c user =
    sym (ap (λ cs. has_claim cs c.args.id.now user) c.self.view_is)
    ∙ (sym (has_kept c.self.inside.claims c.args.id.now user _ refl)
    ∙ none_but_others c.self.inside.claims c.args.id.now c.range.result
    (c.range.ensures.in_range tt) c.in-Some.claim.now c.next.new.self c.in-Some.ensures.steps
    (sym c.eq.ensures ∙ c.if-eq.false) user)

pub returns-in_default-2-clause-none : goal.returns-in_default-2-clause-none
returns-in_default-2-clause-none c user =
    let gone = rw c.in_default.is at c.next.ensures.steps in
    sym (ap (λ cs. has_claim cs c.args.id.now user) c.self.view_is)
    ∙ (sym (has_kept c.self.inside.claims c.args.id.now user _ refl)
    ∙ none_behind c.self.inside.claims c.args.id.now c.range.result (c.range.ensures.in_range tt) gone.0 user)
