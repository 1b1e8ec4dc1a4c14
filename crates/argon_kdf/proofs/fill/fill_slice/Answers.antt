use Rattle.std.proofs.Common.{◌≡◌, arith}
use Rattle.argon_kdf.specs.Shapes.{shape}
use Rattle.argon_kdf.specs.Filling.{with_lanes}
use Rattle.argon_kdf.proofs.Standing.{Stands_slice}
use Rattle.argon_kdf.proofs.Steps.{with_lanes_none, with_lanes_next}
use Rattle.argon_kdf.proofs.fill.fill_slice.Goals as goal

pub lanes-init : goal.lanes-init
lanes-init c =
    λ table st. rw (with_lanes_none (shape c.args.layout) c.args.h0.now table c.args.pass c.args.slice) st

pub lanes-preserved : goal.lanes-preserved
lanes-preserved c = λ table st.
    let x = shape c.args.layout in
    rw (with_lanes_next x c.args.h0.now table c.args.pass c.args.slice c.lanes.lane)
    (c.fill_segment.ensures (with_lanes x c.args.h0.now table c.args.pass c.args.slice c.lanes.lane)
    (c.lanes.invariant table st))

pub returns : goal.returns
returns c = λ table st.
    let done : c.lanes.lane ≡ c.args.layout.lanes = omega arith in
    Stands_slice (shape c.args.layout) _ _ c.args.pass c.args.slice (rw done at (c.lanes.invariant table st))
