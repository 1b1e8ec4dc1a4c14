-- The value is taken out of its slot, and slots without a value may be dropped.
use Rattle.std.proofs.Common.{◌≡◌, ◌<◌, ◌+◌, ℕ, List, length, sym, ap, subst, ◌∙◌, arith}
use Rattle.std.specs.Map.{remove_entry}
use Rattle.std.specs.Ordering.{nat_cmp, eq_by_cmp}
use Rattle.number_map.specs.Rising.{value_at, pairs_of_slots}
use Rattle.number_map.specs.declared.row.Slot.{Slot}
use Rattle.number_map.proofs.RowLemmas.{keys_rise, none_removed}
use Rattle.number_map.proofs.RisingLemmas.{gone_here}
use Rattle.number_map.proofs.RowSteps.{at_place}
use Rattle.number_map.proofs.TakenLemmas.{Taken, taken, taken_none, taken_some}
use Rattle.number_map.proofs.rising.RisingMap.remove.Given.{Over}
use Rattle.number_map.proofs.rising.RisingMap.remove.Goals as goal

-- ---- there is no slot

pub returns-in_err-at-clause-removed : goal.returns-in_err-at-clause-removed
returns-in_err-at-clause-removed g c =
    none_removed c.args.number c.args.self.now
    (ap (λ (es : List (ℕ × g.row.V.Denot)). value_at es c.args.number) (sym c.self.view_is)
    ∙ ap (λ (ss : List (Slot g.row.V.Denot)). value_at (pairs_of_slots ss) c.args.number) (sym c.as_slice.ensures.value)
    ∙ c.in_err-at.ensures.none)

pub returns-in_err-at-clause-rising : goal.returns-in_err-at-clause-rising
returns-in_err-at-clause-rising g c = rw (← c.self.view_is) (keys_rise c.self.inside.slots.items c.self.invariant.rising)

-- ---- the slot has no value

empty : (g : Over) (c : goal.After-from_residual-in_err-gone g) → Taken c.self.inside.slots.items c.take_value.new.slots.items c.args.number c.take_value.result
empty g c =
    taken c.self.inside.slots.items c.take_value.new.slots.items c.in_ok-at.at c.args.number c.take_value.result c.self.invariant.rising
    (subst (λ (ss : List (Slot g.row.V.Denot)). (c.in_ok-at.at < length ss) × (at_place ss c.in_ok-at.at ≡ c.args.number)) c.as_slice.ensures.value c.in_ok-at.ensures.found)
    c.take_value.ensures

pub invariant_of-self : goal.invariant_of-self
invariant_of-self g c = record {
  rising = (empty g c).rising;
  counted = taken_none c.self.inside.slots.items c.take_value.new.slots.items c.args.number c.self.inside.count c.take_value.result (empty g c) c.in_err-gone.was c.self.invariant.counted;
}

pub returns-in_err-gone-clause-value : goal.returns-in_err-gone-clause-value
returns-in_err-gone-clause-value g c =
    c.from_residual-in_err-gone.ensures ∙ sym c.in_err-gone.was ∙ sym (empty g c).value
    ∙ ap (λ (es : List (ℕ × g.row.V.Denot)). value_at es c.args.number) c.self.view_is

pub returns-in_err-gone-clause-removed : goal.returns-in_err-gone-clause-removed
returns-in_err-gone-clause-removed g c = (empty g c).gone ∙ ap (remove_entry (eq_by_cmp nat_cmp c.args.number)) c.self.view_is

pub returns-in_err-gone-clause-gone : goal.returns-in_err-gone-clause-gone
returns-in_err-gone-clause-gone g c =
    ap (λ (es : List (ℕ × g.row.V.Denot)). value_at es c.args.number) (empty g c).gone
    ∙ gone_here c.args.number (pairs_of_slots c.self.inside.slots.items) (keys_rise c.self.inside.slots.items c.self.invariant.rising)

pub returns-in_err-gone-clause-rising : goal.returns-in_err-gone-clause-rising
returns-in_err-gone-clause-rising g c = keys_rise c.take_value.new.slots.items (empty g c).rising

-- ---- the slot has one

some : (g : Over) (c : goal.In_ok-gone g) → Taken c.self.inside.slots.items c.take_value.new.slots.items c.args.number c.take_value.result
some g c =
    taken c.self.inside.slots.items c.take_value.new.slots.items c.in_ok-at.at c.args.number c.take_value.result c.self.invariant.rising
    (subst (λ (ss : List (Slot g.row.V.Denot)). (c.in_ok-at.at < length ss) × (at_place ss c.in_ok-at.at ≡ c.args.number)) c.as_slice.ensures.value c.in_ok-at.ensures.found)
    c.take_value.ensures

one_more : (g : Over) (c : goal.In_ok-gone g) → c.self.inside.count ≡ length (pairs_of_slots c.take_value.new.slots.items) + 1
one_more g c = taken_some c.self.inside.slots.items c.take_value.new.slots.items c.args.number c.self.inside.count c.take_value.result c.in_ok-gone.gone (some g c) c.in_ok-gone.was c.self.invariant.counted

pub overflow_sub-self : goal.overflow_sub-self
overflow_sub-self g c = omega (arith, one_more g c)

left : (g : Over) (c : goal.After-shorten g) → Taken c.self.inside.slots.items c.take_value.new.slots.items c.args.number c.take_value.result
left g c =
    taken c.self.inside.slots.items c.take_value.new.slots.items c.in_ok-at.at c.args.number c.take_value.result c.self.invariant.rising
    (subst (λ (ss : List (Slot g.row.V.Denot)). (c.in_ok-at.at < length ss) × (at_place ss c.in_ok-at.at ≡ c.args.number)) c.as_slice.ensures.value c.in_ok-at.ensures.found)
    c.take_value.ensures

one_less : (g : Over) (c : goal.After-shorten g) → c.self.inside.count ≡ length (pairs_of_slots c.take_value.new.slots.items) + 1
one_less g c = taken_some c.self.inside.slots.items c.take_value.new.slots.items c.args.number c.self.inside.count c.take_value.result c.in_ok-gone.gone (left g c) c.in_ok-gone.was c.self.invariant.counted

pub invariant_of-self-2 : goal.invariant_of-self-2
invariant_of-self-2 g c =
    let counted : c.self.inside.count ≡ length (pairs_of_slots c.take_value.new.slots.items) + 1 = one_less g c in
    let same : length (pairs_of_slots c.shorten.new.slots.items) ≡ length (pairs_of_slots c.take_value.new.slots.items) = ap (λ (es : List (ℕ × g.row.V.Denot)). length es) c.shorten.ensures.same in
    record {
      rising = c.shorten.ensures.rising (left g c).rising;
      counted = omega arith;
    }

pub returns-clause-value : goal.returns-clause-value
returns-clause-value g c =
    sym c.in_ok-gone.was ∙ sym (left g c).value ∙ ap (λ (es : List (ℕ × g.row.V.Denot)). value_at es c.args.number) c.self.view_is

pub returns-clause-removed : goal.returns-clause-removed
returns-clause-removed g c = c.shorten.ensures.same ∙ (left g c).gone ∙ ap (remove_entry (eq_by_cmp nat_cmp c.args.number)) c.self.view_is

pub returns-clause-gone : goal.returns-clause-gone
returns-clause-gone g c =
    ap (λ (es : List (ℕ × g.row.V.Denot)). value_at es c.args.number) (c.shorten.ensures.same ∙ (left g c).gone)
    ∙ gone_here c.args.number (pairs_of_slots c.self.inside.slots.items) (keys_rise c.self.inside.slots.items c.self.invariant.rising)

pub returns-clause-rising : goal.returns-clause-rising
returns-clause-rising g c = keys_rise c.shorten.new.slots.items (c.shorten.ensures.rising (left g c).rising)
