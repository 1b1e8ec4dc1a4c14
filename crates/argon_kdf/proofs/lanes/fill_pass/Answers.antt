use Rattle.std.proofs.Common.{◌≡◌, arith}
use Rattle.argon_kdf.specs.Shapes.{shape}
use Rattle.argon_kdf.specs.Filling.{with_slices}
use Rattle.argon_kdf.proofs.Standing.{Shows_pass}
use Rattle.argon_kdf.proofs.Steps.{with_slices_none, with_slices_next}
use Rattle.argon_kdf.proofs.lanes.fill_pass.Goals as goal

pub slices-init : goal.slices-init
slices-init g c = record {
  whole = c.requires.whole;
  filled = λ h0 table st. rw (with_slices_none (shape c.args.layout) h0 table c.args.pass) st;
}

pub slices-preserved : goal.slices-preserved
slices-preserved g c = record {
  whole = c.fill_slice.ensures.whole;
  filled = λ h0 table st.
      let x = shape c.args.layout in
      rw (with_slices_next x h0 table c.args.pass c.slices.slice)
      (c.fill_slice.ensures.filled h0 (with_slices x h0 table c.args.pass c.slices.slice)
      (c.slices.invariant.filled h0 table st));
}

pub returns-clause-filled : goal.returns-clause-filled
returns-clause-filled g c = λ h0 table st.
    let done : c.slices.slice ≡ 4 = omega arith in
    Shows_pass (shape c.args.layout) _ _ c.args.pass (rw done at (c.slices.invariant.filled h0 table st))
