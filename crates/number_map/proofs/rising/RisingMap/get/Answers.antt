-- The value of the number's slot.
use Rattle.std.proofs.Common.{◌≡◌, ◌<◌, ℕ, List, Some, length, sym, ap, subst, ◌∙◌, refl}
use Rattle.std.proofs.lemmas.Option.{slice_get_read}
use Rattle.std.specs.List.{slice_get}
use Rattle.number_map.specs.Rising.{value_at}
use Rattle.number_map.specs.declared.row.Slot.{Slot}
use Rattle.number_map.proofs.RowSteps.{value_found, at_place}
use Rattle.number_map.proofs.rising.RisingMap.get.Goals as goal

pub returns-in-Some : goal.returns-in-Some
returns-in-Some g c =
    let there = subst (λ (ss : List (Slot g.row.V.Denot)). (c.in-Some.at < length ss) × (at_place ss c.in-Some.at ≡ c.args.number)) c.as_slice.ensures.value c.in-Some.ensures.found in
    let at : slice_get c.self.inside.slots.items c.in-Some.at ≡ Some c.index.result.now
    = slice_get_read c.self.inside.slots.items (length c.self.inside.slots.items) c.in-Some.at c.index.result.now refl there.0 c.index.ensures in
    c.as_ref.ensures.value
    ∙ sym (value_found c.self.inside.slots.items c.in-Some.at c.args.number c.index.result.now c.self.invariant.rising at there.1)
    ∙ ap (λ (es : List (ℕ × g.row.V.Denot)). value_at es c.args.number) c.self.view_is
