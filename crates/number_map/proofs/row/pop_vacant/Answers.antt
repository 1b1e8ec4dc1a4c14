-- The slot that is popped has no value.
use Rattle.std.proofs.Common.{◌≡◌, false, List, Option, Some, None, is_some, ◌∙◌, ap, sym, subst, refl, rules}
use Rattle.number_map.specs.Rising.{pairs_of_slots, numbers}
use Rattle.number_map.specs.declared.row.Slot.{Slot}
use Rattle.number_map.proofs.RowLemmas.{IsSorted, popped, sorted_popped}
use Rattle.number_map.proofs.row.pop_vacant.Goals as goal

none_of : {V : Type 0} (o : Option V) → is_some o ≡ false → o ≡ None
none_of None is = refl
none_of (Some v) is = absurd (cc)

pub loop-last-preserved-else-is_some-2 : goal.loop-last-preserved-else-is_some-2
loop-last-preserved-else-is_some-2 g c =
    let last : c.pop.result ≡ Some c.in-Some.last.now = search rules in
    let split = rw last at c.pop.ensures.items in
    let none : c.in-Some.last.now.value ≡ None = none_of c.in-Some.last.now.value (sym c.is_some.ensures ∙ c.if-is_some.false) in (
      sym (popped c.pop.new.self.items c.in-Some.last.now none) ∙ ap pairs_of_slots (sym split) ∙ c.loop-last.invariant.0,
      λ sorted. sorted_popped c.pop.new.self.items c.in-Some.last.now (subst (λ (ss : List (Slot g.row.V.Denot)). IsSorted (numbers ss)) split (c.loop-last.invariant.1 sorted)),
    )
