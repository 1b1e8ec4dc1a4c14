use Rattle.std.proofs.Common.{sym, ap, ◌∙◌, subst}
use Rattle.std.specs.Cmp.{nat_cmp_total}
use Rattle.std.specs.FinMap.{nat_cmp-IsAntisymmetric}
use Rattle.user_claims.specs.Claims.{ClaimSet, has_claim, with_claim}
use Rattle.user_claims.specs.ClaimCounts.{count_of_user, count_of_id}
use Rattle.user_claims.specs.Counted.{set_of, IsCounted}
use Rattle.key_counts.proofs.CountLemmas.{undone}
use Rattle.user_claims.proofs.ClaimOrder.{id_cmp_total, id_cmp-IsAntisymmetric}
use Rattle.user_claims.proofs.KeptLemmas.{set_of-added, IsCounted-added, at_ok, at_err}
use Rattle.user_claims.proofs.claims.Claims.insert.Goals as goal

pub invariant_of-self-then-is_err-2 : goal.invariant_of-self-then-is_err-2
invariant_of-self-then-is_err-2 c =
    let counts : IsCounted (set_of c.self.inside.claims.keys) c.one_less-then-is_err-2.new.counts c.one_less-then-is_err-2-2.new.counts = record {
      users = undone nat_cmp_total nat_cmp-IsAntisymmetric (count_of_user (set_of c.self.inside.claims.keys)) c.self.inside.by_user c.one_more.new.counts c.one_less-then-is_err-2.new.counts c.args.uid
          c.self.invariant.users c.in_ok-one_more.ensures.more c.one_less-then-is_err-2.ensures;
      ids = undone id_cmp_total id_cmp-IsAntisymmetric (count_of_id (set_of c.self.inside.claims.keys)) c.self.inside.by_id c.one_more-2.new.counts c.one_less-then-is_err-2-2.new.counts c.args.id.now
          c.self.invariant.ids (at_ok c.one_more-2.result
          (sym c.is_err.ensures.value
          ∙ c.if-is_err.false) c.one_more-2.ensures.more) c.one_less-then-is_err-2-2.ensures;
    } in
    subst (λ ks.
    IsCounted (set_of ks) c.one_less-then-is_err-2.new.counts c.one_less-then-is_err-2-2.new.counts)
    (sym (at_err c.insert.result (sym c.is_err-2.ensures.value
    ∙ c.if-is_err-2.true) c.insert.ensures.err)) counts

pub invariant_of-self-else-is_err-2 : goal.invariant_of-self-else-is_err-2
invariant_of-self-else-is_err-2 c =
    subst (λ (cs : ClaimSet). IsCounted cs c.one_more.new.counts c.one_more-2.new.counts)
    (sym (set_of-added c.self.inside.claims c.insert.new.self c.args.id.now c.args.uid
    (at_ok c.insert.result (sym c.is_err-2.ensures.value
    ∙ c.if-is_err-2.false) c.insert.ensures.updates)))
    (IsCounted-added (set_of c.self.inside.claims.keys) c.self.inside.by_user c.one_more.new.counts c.self.inside.by_id c.one_more-2.new.counts c.args.id.now c.args.uid c.self.invariant
    (ap (λ cs. has_claim cs c.args.id.now c.args.uid) c.self.view_is ∙ c.requires.new)
    c.in_ok-one_more.ensures.more (at_ok c.one_more-2.result
    (sym c.is_err.ensures.value ∙ c.if-is_err.false) c.one_more-2.ensures.more))

pub returns-clause-made : goal.returns-clause-made
returns-clause-made c =
    set_of-added c.self.inside.claims c.insert.new.self c.args.id.now c.args.uid
    (at_ok c.insert.result (sym c.is_err-2.ensures.value ∙ c.if-is_err-2.false) c.insert.ensures.updates)
    ∙ ap (λ cs. with_claim cs c.args.id.now c.args.uid) c.self.view_is
