-- The half that is left is that of the number.
use Rattle.std.proofs.Common.{◌≡◌, ◌+◌, ◌-◌, ◌/◌, length, Some, refl, ap, arith}
use Rattle.std.proofs.lemmas.Option.{slice_get_read}
use Rattle.std.specs.List.{slice_get}
use Rattle.number_map.specs.declared.row.Slot.{Slot}
use Rattle.number_map.proofs.RowSteps.{lower_to, higher_from}
use Rattle.number_map.proofs.row.lower_count.Goals as goal

pub loop-low-preserved-then-slots-mid : goal.loop-low-preserved-then-slots-mid
loop-low-preserved-then-slots-mid g c =
    let is = ap (λ (x : Slot g.row.V.Denot). x.number) c.index-slots-mid.is in
    let at : slice_get c.args.slots.now (c.loop-low.low + (c.loop-low.high - c.loop-low.low) / 2) ≡ Some c.index-slots-mid.result
    = slice_get_read c.args.slots.now (length c.args.slots.now) _ c.index-slots-mid.result refl (omega arith) c.index-slots-mid.is in
    record {
      within = omega arith;
      high = c.loop-low.invariant.high;
      lower = lower_to c.args.slots.now _ c.args.number c.index-slots-mid.result c.requires (omega arith) at (omega (arith, is, c.if-slots-mid.true));
      others = c.loop-low.invariant.others;
    }

pub loop-low-preserved : goal.loop-low-preserved
loop-low-preserved g c =
    let is = ap (λ (x : Slot g.row.V.Denot). x.number) c.index-slots-mid.is in
    let at : slice_get c.args.slots.now (c.loop-low.low + (c.loop-low.high - c.loop-low.low) / 2) ≡ Some c.index-slots-mid.result
    = slice_get_read c.args.slots.now (length c.args.slots.now) _ c.index-slots-mid.result refl (omega arith) c.index-slots-mid.is in
    record {
      within = omega arith;
      high = omega arith;
      lower = c.loop-low.invariant.lower;
      others = higher_from c.args.slots.now _ c.args.number c.index-slots-mid.result c.requires at (omega (arith, is, c.if-slots-mid.false));
    }
