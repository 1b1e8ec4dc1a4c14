use Rattle.std.proofs.Common.{◌≡◌, ◌∙◌, ◌+◌, ◌≤◌, [], arith, length-set}
use Rattle.std.proofs.Math.Nat.{mul-le-mul_left}
use Rattle.argon_kdf.specs.Blocks.{zero_block}
use Rattle.argon_kdf.specs.Shapes.{shape}
use Rattle.argon_kdf.specs.Slices.{slices_of}
use Rattle.argon_kdf.specs.Filling.{with_places}
use Rattle.argon_kdf.proofs.ReadingLemmas.{readable_later}
use Rattle.argon_kdf.proofs.SegmentLemmas.{Begun_next, Begun_made, new_later_seen, written_over}
use Rattle.argon_kdf.proofs.SliceLemmas.{same_default}
use Rattle.argon_kdf.proofs.Steps.{with_places_none, with_places_next}
use Rattle.argon_kdf.proofs.segment.make_segment.Goals as goal

pub places-init : goal.places-init
places-init c = record {
  long = c.requires.segment;
  filled = λ h0 table st.
      rw (with_places_none (shape c.args.layout) h0 table c.args.pass c.args.slice c.args.lane) st;
}

pub write_joined-requires-clause-readable : goal.write_joined-requires-clause-readable
write_joined-requires-clause-readable c =
    readable_later (shape c.args.layout) (slices_of c.args.memory.now) c.places.segment c.args.pass c.args.slice
    c.args.lane c.places.index c.requires.memory c.places.invariant.long

pub places-preserved : goal.places-preserved
places-preserved c =
    let x = shape c.args.layout in
    let w = c.args.pass in
    let s = c.args.slice in
    let i = c.args.lane in
    let k = c.places.index in
    let next : s + 1 ≤ 4 = omega arith in
    record {
      long = length-set _ _ _ ∙ c.places.invariant.long;
      filled = λ h0 table st.
          let begun = c.places.invariant.filled h0 table st in
          rw (with_places_next x h0 table w s i k)
          (Begun_next x h0 (slices_of c.args.memory.now) c.places.segment _ (with_places x h0 table w s i k) w s i k _
          (written_over c.places.segment k _ (omega (arith, c.places.invariant.long))) (omega arith)
          (new_later_seen x h0 (slices_of c.args.memory.now) c.places.segment (with_places x h0 table w s i k)
          w s i k _ _ _ c.requires.later c.requires.lane (omega arith)
          (omega (arith, mul-le-mul_left c.args.layout.width next)) begun
          (c.write_joined.ensures (with_places x h0 table w s i k) begun (λ first half. absurd (omega arith)))
          (same_default c.places.segment k [] zero_block (omega (arith, c.places.invariant.long))) c.xor_into.ensures)
          begun);
    }

pub returns-clause-made : goal.returns-clause-made
returns-clause-made c = λ h0 table k low st.
    let x = shape c.args.layout in
    let done : c.places.index ≡ c.args.layout.width = omega arith in
    let next : c.args.slice + 1 ≤ 4 = omega arith in
    Begun_made x (slices_of c.args.memory.now) c.places.segment _ c.args.pass c.args.slice c.args.lane k
    c.requires.lane c.requires.slice low
    (omega (arith, mul-le-mul_left c.args.layout.width next))
    (rw done at (c.places.invariant.filled h0 table st))
