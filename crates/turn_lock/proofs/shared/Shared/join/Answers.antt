use Rattle.std.proofs.Common.{rules, ◌≡◌, ◌+◌, ◌^◌, ◌≤◌, ◌++◌, length, ap, ◌∙◌, subst, arith}
use Rattle.call_history.specs.Entries.{by}
use Rattle.turn_lock.proofs.Sharing.{joined_is, same_past, first_past, others_past, others_none}
use Rattle.turn_lock.proofs.shared.Shared.join.Goals as goal

pub merge-requires-clause-entries : goal.merge-requires-clause-entries
merge-requires-clause-entries g c = (c.pass.invariant.past_own, others_none _ _ _ _ _ c.other.invariant)

pub invariant_of-pass : goal.invariant_of-pass
invariant_of-pass g c =
    let after = c.merge.ensures.seat.1 in
    let room = subst (λ m. m.0.left + length m.0.mine ≤ 2 ^ 40) after c.merge.ensures.room in
    let left = c.pass.invariant.left_is in let left' = c.other.invariant.left_is in
    let made = c.pass.invariant.made_is in
    joined_is _ _ _ _ _ c.pass.invariant _ _ _ _ _ c.other.invariant (search rules) _ (omega arith) after

pub returns-clause-same : goal.returns-clause-same
returns-clause-same g c caller low high =
    ap (λ m. by caller m.0.past) c.merge.ensures.seat.1
    ∙ (same_past _ _ _ _ _ c.pass.invariant _ _ _ _ _ c.other.invariant (search rules) caller
    (search rules) ∙ ap (λ p. by caller p.past) c.pass.view_is)

pub returns-clause-first : goal.returns-clause-first
returns-clause-first g c =
    subst (λ p. by p.who c.merge.new.seat.me.0.past ≡ by p.who p.past ++ p.mine) c.other.view_is
    (ap (λ m. by c.other.inside.seat.me.0.who m.0.past) c.merge.ensures.seat.1
    ∙ first_past _ _ _ _ _ c.pass.invariant _ _ _ _ _ c.other.invariant (search rules))

pub returns-clause-others : goal.returns-clause-others
returns-clause-others g c caller low high =
    ap (λ m. by caller m.0.past) c.merge.ensures.seat.1
    ∙ (others_past _ _ _ _ _ c.pass.invariant _ _ _ _ _ c.other.invariant (search rules) caller (search rules)
    ∙ ap (λ p. by caller p.past) c.other.view_is)
