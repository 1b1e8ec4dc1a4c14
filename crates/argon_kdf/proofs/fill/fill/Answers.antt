use Rattle.argon_kdf.specs.Shapes.{shape}
use Rattle.argon_kdf.proofs.Standing.{Stands_start}
use Rattle.argon_kdf.proofs.Steps.{with_passes_none, with_passes_next}
use Rattle.argon_kdf.proofs.fill.fill.Goals as goal

pub passes-init : goal.passes-init
passes-init c =
    rw (with_passes_none (shape c.args.layout) c.args.h0.now)
    (Stands_start (shape c.args.layout) c.args.memory.now c.requires.whole c.requires.zero)

pub passes-preserved : goal.passes-preserved
passes-preserved c =
    rw (with_passes_next (shape c.args.layout) c.args.h0.now c.passes.pass)
    (c.fill_pass.ensures _ c.passes.invariant)
