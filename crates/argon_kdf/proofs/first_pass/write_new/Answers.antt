use Rattle.std.proofs.Common.{arith}
use Rattle.argon_kdf.proofs.Steps.{new_first, new_joined}
use Rattle.argon_kdf.proofs.first_pass.write_new.Goals as goal

pub returns-then-column-lt2 : goal.returns-then-column-lt2
returns-then-column-lt2 c = λ table begun addressed.
    new_first _ c.args.h0.now c.args.at _ c.column_of-column.result _ (omega arith) c.if-column-lt2.true c.column_of-column.ensures.value c.first_block.ensures

pub returns-else-column-lt2 : goal.returns-else-column-lt2
returns-else-column-lt2 c = λ table begun addressed.
    new_joined _ c.args.h0.now c.args.at _ c.column_of-column.result _ (omega arith) c.if-column-lt2.false c.column_of-column.ensures.value
    (c.write_joined.ensures table begun (λ first. addressed))
