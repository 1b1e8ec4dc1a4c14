use Rattle.std.proofs.Common.{rules, ◌≡◌, ◌++◌, Some, ap, sym, ◌∙◌, subst}
use mathlib.Core.Option.{some-injective}
use Rattle.call_history.specs.Prefix.{IsPrefix}
use Rattle.call_history.specs.Entries.{IsComplete, by, entries_by, history_in_order}
use Rattle.call_history.proofs.Ordering.{merged_by_callers, IsComplete_by_callers}
use Rattle.turn_lock.specs.Standing.{standing}
use Rattle.turn_lock.specs.Passes.{merged_entries}
use Rattle.turn_lock.proofs.Closing.{closes, Some-injective}
use Rattle.turn_lock.proofs.shared.Shared.close.Goals as goal

pub unwrap-held-requires : goal.unwrap-held-requires
unwrap-held-requires g c =
    let left = closes _ _ _ c.pass.inside.seat.id c.pass.inside.seat.me.0 _ _ (search rules) (search rules)
    (search rules) (search rules)
    (search rules) c.pass.invariant.past_own c.close_with-closed.ensures.values.2 in
    let is : c.take.result ≡ Some (standing left.value left.history) =
    some-injective _ _ (sym c.take.ensures.value ∙ left.home) in
    rw is

pub returns-clause-complete : goal.returns-clause-complete
returns-clause-complete g c =
    let left = closes _ _ _ c.pass.inside.seat.id c.pass.inside.seat.me.0 _ _ (search rules) (search rules)
    (search rules) (search rules)
    (search rules) c.pass.invariant.past_own c.close_with-closed.ensures.values.2 in
    subst (λ p. IsComplete (p.past ++ p.mine)) c.pass.view_is
    (IsComplete_by_callers left.history _ left.entries)

pub returns-clause-callers : goal.returns-clause-callers
returns-clause-callers g c caller =
    let left = closes _ _ _ c.pass.inside.seat.id c.pass.inside.seat.me.0 _ _ (search rules) (search rules)
    (search rules) (search rules)
    (search rules) c.pass.invariant.past_own c.close_with-closed.ensures.values.2 in
    subst (λ p. entries_by caller (merged_entries p) ≡ by caller (p.past ++ p.mine)) c.pass.view_is
    (ap (entries_by caller) (merged_by_callers left.history
    (c.pass.inside.seat.me.0.past ++ c.pass.inside.seat.me.0.mine) left.entries)
    ∙ sym (left.entries caller))

pub returns-clause-seen : goal.returns-clause-seen
returns-clause-seen g c =
    let left = closes _ _ _ c.pass.inside.seat.id c.pass.inside.seat.me.0 _ _ (search rules) (search rules)
    (search rules) (search rules)
    (search rules) c.pass.invariant.past_own c.close_with-closed.ensures.values.2 in
    subst (λ p. IsPrefix p.seen (merged_entries p)) c.pass.view_is
    (subst (IsPrefix c.pass.inside.seat.me.0.seen)
    (sym (merged_by_callers left.history (c.pass.inside.seat.me.0.past
    ++ c.pass.inside.seat.me.0.mine) left.entries)) left.begins)

pub returns-clause-reaches : goal.returns-clause-reaches
returns-clause-reaches g c =
    let left = closes _ _ _ c.pass.inside.seat.id c.pass.inside.seat.me.0 _ _ (search rules) (search rules)
    (search rules) (search rules)
    (search rules) c.pass.invariant.past_own c.close_with-closed.ensures.values.2 in
    let is : c.take.result ≡ Some (standing left.value left.history) =
    some-injective _ _ (sym c.take.ensures.value ∙ left.home) in
    let entries = c.pass.inside.seat.me.0.past ++ c.pass.inside.seat.me.0.mine in
    let held : c.unwrap-held.result ≡ standing left.value left.history =
    Some-injective _ _ (sym c.unwrap-held.ensures ∙ is) in
    let whole : history_in_order entries ≡ merged_entries c.args.pass = ap (λ p. merged_entries p) c.pass.view_is in
    subst (λ h. g.M.Machine.reaches h c.into_value.result)
    (ap (λ h. h.history) held ∙ (sym (merged_by_callers left.history entries left.entries) ∙ whole))
    c.into_value.ensures.reaches
