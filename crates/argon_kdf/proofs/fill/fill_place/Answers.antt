use Rattle.std.proofs.Common.{◌∙◌, ap, ◌+◌, ◌*◌, ℕ}
use Rattle.argon_kdf.specs.Shapes.{shape, columns}
use Rattle.argon_kdf.proofs.Steps.{Stands_block}
use Rattle.argon_kdf.proofs.fill.fill_place.Goals as goal

pub returns : goal.returns
returns c = λ table st addressed.
    Stands_block _ c.args.h0.now c.args.memory.now table c.args.at c.offset.result _ c.requires.within
    (c.offset.ensures.value ∙ ap (λ (column : ℕ).
    c.args.at.lane * columns (shape c.args.layout) + column) c.column_of.ensures.value)
    c.offset.ensures.within (c.write_new.ensures table st addressed) st
