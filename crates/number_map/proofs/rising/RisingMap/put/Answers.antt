-- The slot is put, and the count grows if its number had no value.
use Rattle.std.proofs.Common.{◌≡◌, ◌+◌, cond, length, ap, ◌∙◌, arith}
use Rattle.number_map.specs.Rising.{pairs_of_slots}
use Rattle.number_map.proofs.RowLemmas.{keys_rise, length_filled}
use Rattle.number_map.proofs.rising.RisingMap.put.Goals as goal

pub returns-in_err-more-clause-rising : goal.returns-in_err-more-clause-rising
returns-in_err-more-clause-rising g c = keys_rise c.put_slot.new.slots.items c.put_slot.ensures.rising

pub overflow_add-self : goal.overflow_add-self
overflow_add-self g c =
    let grown : length (pairs_of_slots c.put_slot.new.slots.items) ≡ length (pairs_of_slots c.self.inside.slots.items) + 1
    = c.in_ok-more.ensures.counted ∙ ap (λ b. length (pairs_of_slots c.self.inside.slots.items) + cond b 1 0) c.if-more.true in
    omega (arith, length_filled c.put_slot.new.slots.items)

pub returns-then-more-clause-rising : goal.returns-then-more-clause-rising
returns-then-more-clause-rising g c = keys_rise c.put_slot.new.slots.items c.put_slot.ensures.rising

pub returns-else-more-clause-rising : goal.returns-else-more-clause-rising
returns-else-more-clause-rising g c = keys_rise c.put_slot.new.slots.items c.put_slot.ensures.rising
