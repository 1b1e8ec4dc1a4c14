-- After all others, in the place of its number, or between others.
use Rattle.std.proofs.Common.{◌≡◌, ℕ, ◌+◌, ◌<◌, ◌≤◌, Bool, true, false, cond, not, List, length, Option, Some, None, is_some, is_none, refl, sym, ap, subst, ◌∙◌}
use Rattle.std.proofs.lemmas.Option.{slice_get_read}
use Rattle.std.specs.List.{slice_get}
use Rattle.number_map.specs.Rising.{pairs_of_slots, numbers}
use Rattle.number_map.specs.declared.row.Slot.{Slot}
use Rattle.number_map.proofs.RowLemmas.{IsSorted, Parts}
use Rattle.number_map.proofs.RowSteps.{at_place, parts_of, pushed_put, pushed_length, pushed_sorted, set_put, set_length, set_sorted, insert_put, insert_length, insert_sorted}
use Rattle.number_map.proofs.row.put_slot.Given.{Over}
use Rattle.number_map.proofs.row.put_slot.Goals as goal

-- ---- after all others

lower : (g : Over) (c : goal.In_ok-push g) → (k : ℕ) → k < length c.args.slots.now.items → at_place c.args.slots.now.items k < c.args.slot.number
lower g c = subst (λ (ss : List (Slot g.row.V.Denot)). (k : ℕ) → k < length ss → at_place ss k < c.args.slot.number) c.as_slice.ensures.value (c.if-is_above.ensures refl)

pub returns-then-is_above-clause-put : goal.returns-then-is_above-clause-put
returns-then-is_above-clause-put g c = λ value is.
    ap pairs_of_slots c.in_ok-push.ensures.items ∙ pushed_put c.args.slots.now.items c.args.slot (lower g c) value is

pub returns-then-is_above-clause-counted : goal.returns-then-is_above-clause-counted
returns-then-is_above-clause-counted g c =
    ap (λ (ss : List (Slot g.row.V.Denot)). length (pairs_of_slots ss)) c.in_ok-push.ensures.items ∙ pushed_length c.args.slots.now.items c.args.slot (lower g c) c.requires.filled

pub returns-then-is_above-clause-rising : goal.returns-then-is_above-clause-rising
returns-then-is_above-clause-rising g c =
    subst (λ (ss : List (Slot g.row.V.Denot)). IsSorted (numbers ss)) (sym c.in_ok-push.ensures.items) (pushed_sorted c.args.slots.now.items c.args.slot (lower g c) c.requires.rising)

-- ---- in the place of its number

there : (g : Over) (c : goal.Joined-index_mut-slot g) → (c.lower_count-at.result < length c.args.slots.now.items) × (at_place c.args.slots.now.items c.lower_count-at.result ≡ c.args.slot.number)
there g c = subst (λ (ss : List (Slot g.row.V.Denot)). (c.lower_count-at.result < length ss) × (at_place ss c.lower_count-at.result ≡ c.args.slot.number)) c.as_slice-3.ensures.value (c.if-has.ensures.0 refl)

got : (g : Over) (c : goal.Joined-index_mut-slot g) → slice_get c.args.slots.now.items c.lower_count-at.result ≡ Some c.index.result.now
got g c = slice_get_read c.args.slots.now.items (length c.args.slots.now.items) c.lower_count-at.result c.index.result.now refl (there g c).0 c.index.ensures

none_is : {V : Type 0} (o : Option V) (b : Bool) → is_some o ≡ not b → is_none o ≡ b
none_is None true is = refl
none_is None false is = absurd (cc)
none_is (Some v) true is = absurd (cc)
none_is (Some v) false is = refl

pub returns-then-has-clause-put : goal.returns-then-has-clause-put
returns-then-has-clause-put g c = λ value is.
    set_put c.args.slots.now.items c.lower_count-at.result c.index.result.now c.args.slot (got g c) (there g c).1 c.requires.rising value is

pub returns-then-has-clause-counted : goal.returns-then-has-clause-counted
returns-then-has-clause-counted g c =
    set_length c.args.slots.now.items c.lower_count-at.result c.index.result.now c.args.slot (got g c) (there g c).1 c.requires.filled
    ∙ ap (λ b. length (pairs_of_slots c.args.slots.now.items) + cond b 1 0) (none_is c.index.result.now.value c.is_none-more.result c.is_none-more.ensures)

pub returns-then-has-clause-rising : goal.returns-then-has-clause-rising
returns-then-has-clause-rising g c =
    set_sorted c.args.slots.now.items c.lower_count-at.result c.index.result.now c.args.slot (got g c) (there g c).1 c.requires.rising

-- ---- between others

parts : (g : Over) (c : goal.In_ok-insert g) → Parts c.args.slots.now.items c.lower_count-at.result c.args.slot.number
parts g c =
    let found = subst (λ (ss : List (Slot g.row.V.Denot)). (c.lower_count-at.result ≤ length ss)
    × ((k : ℕ) → k < c.lower_count-at.result → at_place ss k < c.args.slot.number)
    × ((k : ℕ) → c.lower_count-at.result ≤ k → k < length ss → c.args.slot.number ≤ at_place ss k)) c.as_slice-2.ensures.value
    (c.lower_count-at.ensures.within, c.lower_count-at.ensures.lower, c.lower_count-at.ensures.others) in
    parts_of c.args.slots.now.items c.lower_count-at.result c.args.slot.number c.requires.rising found.0 found.1 found.2
    (λ here.
    let bad : false ≡ true = c.if-has.ensures.1 (subst (λ (ss : List (Slot g.row.V.Denot)). (c.lower_count-at.result < length ss) × (at_place ss c.lower_count-at.result ≡ c.args.slot.number)) (sym c.as_slice-3.ensures.value) here) in
    absurd (cc))

pub returns-clause-put : goal.returns-clause-put
returns-clause-put g c = λ value is.
    ap pairs_of_slots c.in_ok-insert.ensures.items ∙ insert_put c.args.slots.now.items c.lower_count-at.result c.args.slot (parts g c) value is

pub returns-clause-counted : goal.returns-clause-counted
returns-clause-counted g c =
    ap (λ (ss : List (Slot g.row.V.Denot)). length (pairs_of_slots ss)) c.in_ok-insert.ensures.items ∙ insert_length c.args.slots.now.items c.lower_count-at.result c.args.slot (parts g c) c.requires.filled

pub returns-clause-rising : goal.returns-clause-rising
returns-clause-rising g c =
    subst (λ (ss : List (Slot g.row.V.Denot)). IsSorted (numbers ss)) (sym c.in_ok-insert.ensures.items) (insert_sorted c.args.slots.now.items c.lower_count-at.result c.args.slot (parts g c) c.requires.rising)
