use Rattle.std.proofs.Common.{◌≡◌, ℕ, ◌+◌, ◌-◌, ◌/◌, ◌≤◌, Bool, true, List, [], ◌∷◌, ◌++◌, length, sym, ap, ◌∙◌, arith}
use Rattle.std.proofs.Common.{refl}
use Rattle.std.proofs.Math.Nat.{mul-le-mul_left}
use Rattle.std.proofs.lemmas.List.{length-append}
use Rattle.std.specs.Prelude.{if◌then◌else◌}
use Rattle.argon_kdf.specs.Shapes.{place, shape}
use Rattle.argon_kdf.specs.References.{address_block}
use Rattle.argon_kdf.specs.Slices.{slices_of}
use Rattle.argon_kdf.specs.Filling.{with_places}
use Rattle.argon_kdf.proofs.ReadingLemmas.{readable_first}
use Rattle.argon_kdf.proofs.SegmentLemmas.{Begun_next, Begun_made, written_behind}
use Rattle.argon_kdf.proofs.Steps.{address_block_same, with_places_none, with_places_next}
use Rattle.argon_kdf.proofs.first_pass.grow_segment.Goals as goal

pushed : (ok : Bool) (old new : List (List ℕ)) (block : List ℕ) → ok ≡ true
    → new ≡ (if ok then old ++ block ∷ [] else old) → new ≡ old ++ block ∷ []
pushed ok old new block taken is = is ∙ rw taken refl

pub places-init : goal.places-init
places-init c = record {
  long = ap length c.requires.empty;
  room = omega (arith, c.requires.room);
  addressed = λ half late. absurd (omega arith);
  filled = λ table st.
      rw (with_places_none (shape c.args.layout) c.args.h0.now table 0 c.args.slice c.args.lane, c.requires.empty) st;
}

pub write_new-requires-clause-readable : goal.write_new-requires-clause-readable
write_new-requires-clause-readable c =
    readable_first (shape c.args.layout) (slices_of c.args.memory.now) c.deref.result.now c.args.slice c.args.lane
    c.places.index c.requires.memory (ap length c.deref.ensures.value ∙ c.places.invariant.long)

pub places-preserved : goal.places-preserved
places-preserved c =
    let x = shape c.args.layout in
    let h0 = c.args.h0.now in
    let s = c.args.slice in
    let i = c.args.lane in
    let k = c.places.index in
    let seg = c.places.segment in
    let long = c.places.invariant.long in
    let back : k + 1 - 1 ≡ k = omega arith in
    let grown : c.push-pushed.new.self.items ≡ seg.items ++ c.write_new.new.block ∷ [] =
    pushed _ seg.items _ _ (c.push-pushed.ensures.succeeds
    (omega (arith, long, seg.ok.0, c.places.invariant.room, c.places-test.true))) c.push-pushed.ensures.items in
    record {
      long = ap length grown ∙ length-append seg.items (c.write_new.new.block ∷ []) ∙ omega (arith, long);
      room = omega (arith, c.places.invariant.room, c.push-pushed.ensures.capacity);
      addressed = λ half late.
          c.refresh.ensures refl half (λ begun. c.places.invariant.addressed half begun)
          ∙ address_block_same x 0 s i k (k + 1) (k / 128 + 1)
          ∙ ap (λ (n : ℕ). address_block x (place 0 s i (k + 1)) (n / 128 + 1)) (sym back);
      filled = λ table st.
          let before = with_places x h0 table 0 s i k in
          let begun = c.places.invariant.filled table st in
          rw (with_places_next x h0 table 0 s i k, grown)
          (Begun_next x h0 (slices_of c.args.memory.now) seg.items _ before 0 s i k _
          (written_behind seg.items k _ long) (omega (arith, c.places-test.true))
          (c.write_new.ensures before (rw c.deref.ensures.value begun)
          (λ half. c.refresh.ensures refl half (λ late. c.places.invariant.addressed half late)))
          begun);
    }

pub returns-clause-made : goal.returns-clause-made
returns-clause-made c = λ table k low st.
    let x = shape c.args.layout in
    let done : c.places.index ≡ c.args.layout.width = omega arith in
    let next : c.args.slice + 1 ≤ 4 = omega arith in
    Begun_made x (slices_of c.args.memory.now) c.places.segment.items _ 0 c.args.slice c.args.lane k
    c.requires.lane c.requires.slice low
    (omega (arith, mul-le-mul_left c.args.layout.width next))
    (rw done at (c.places.invariant.filled table st))
