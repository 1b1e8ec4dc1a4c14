use Rattle.std.proofs.Common.{◌≡◌, ◌∙◌, ap, sym, ◌+◌, ◌-◌, ◌/◌, ℕ, arith}
use Rattle.argon_kdf.specs.Shapes.{place, shape}
use Rattle.argon_kdf.specs.References.{address_block}
use Rattle.argon_kdf.specs.Filling.{with_places}
use Rattle.argon_kdf.proofs.Standing.{Stands_lane}
use Rattle.argon_kdf.proofs.Steps.{address_block_same, with_places_none, with_places_next}
use Rattle.argon_kdf.proofs.fill.fill_segment.Goals as goal

pub places-init : goal.places-init
places-init c = record {
  addressed = λ first half late. absurd (omega arith);
  filled =
      λ table st.
      rw (with_places_none (shape c.args.layout) c.args.h0.now table c.args.pass c.args.slice c.args.lane) st;
}

pub places-preserved : goal.places-preserved
places-preserved c =
    let x = shape c.args.layout in
    let w = c.args.pass in
    let s = c.args.slice in
    let i = c.args.lane in
    let k = c.places.index in
    let back : k + 1 - 1 ≡ k = omega arith in
    record {
      addressed = λ first half late.
          c.refresh.ensures first half (λ begun. c.places.invariant.addressed first half begun)
          ∙ address_block_same x w s i k (k + 1) (k / 128 + 1)
          ∙ ap (λ (n : ℕ). address_block x (place w s i (k + 1)) (n / 128 + 1)) (sym back);
      filled = λ table st.
          rw (with_places_next x c.args.h0.now table w s i k)
          (c.fill_place.ensures (with_places x c.args.h0.now table w s i k)
          (c.places.invariant.filled table st)
          (λ first half. c.refresh.ensures first half
          (λ begun. c.places.invariant.addressed first half begun)));
    }

pub returns : goal.returns
returns c = λ table st.
    let done : c.places.index ≡ c.args.layout.width = omega arith in
    Stands_lane (shape c.args.layout) _ _ c.args.pass c.args.slice c.args.lane
    (rw done at (c.places.invariant.filled table st))
