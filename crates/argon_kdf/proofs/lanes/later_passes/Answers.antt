use Rattle.argon_kdf.specs.Shapes.{shape}
use Rattle.argon_kdf.proofs.Steps.{with_passes_next}
use Rattle.argon_kdf.proofs.lanes.later_passes.Goals as goal

pub passes-init : goal.passes-init
passes-init g c = record { whole = c.requires.whole; filled = λ h0 st. st }

pub passes-preserved : goal.passes-preserved
passes-preserved g c = record {
  whole = c.fill_pass.ensures.whole;
  filled = λ h0 st.
      rw (with_passes_next (shape c.args.layout) h0 c.passes.pass)
      (c.fill_pass.ensures.filled h0 _ (c.passes.invariant.filled h0 st));
}
