use Rattle.std.proofs.Common.{◌≡◌, arith}
use Rattle.argon_kdf.specs.Shapes.{shape}
use Rattle.argon_kdf.specs.Filling.{with_slices}
use Rattle.argon_kdf.proofs.Standing.{Stands_pass}
use Rattle.argon_kdf.proofs.Steps.{with_slices_none, with_slices_next}
use Rattle.argon_kdf.proofs.fill.fill_pass.Goals as goal

pub slices-init : goal.slices-init
slices-init c = λ table st. rw (with_slices_none (shape c.args.layout) c.args.h0.now table c.args.pass) st

pub slices-preserved : goal.slices-preserved
slices-preserved c = λ table st.
    let x = shape c.args.layout in
    rw (with_slices_next x c.args.h0.now table c.args.pass c.slices.slice)
    (c.fill_slice.ensures (with_slices x c.args.h0.now table c.args.pass c.slices.slice)
    (c.slices.invariant table st))

pub returns : goal.returns
returns c = λ table st.
    let done : c.slices.slice ≡ 4 = omega arith in
    Stands_pass (shape c.args.layout) _ _ c.args.pass (rw done at (c.slices.invariant table st))
