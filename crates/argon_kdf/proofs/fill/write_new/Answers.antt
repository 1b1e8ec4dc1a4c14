use Rattle.argon_kdf.proofs.Steps.{new_first, new_joined, new_later}
use Rattle.argon_kdf.proofs.fill.write_new.Goals as goal

pub returns-then-at-gt0 : goal.returns-then-at-gt0
returns-then-at-gt0 c = λ table st addressed.
    new_later _ c.args.h0.now c.args.memory.now table c.args.at c.column_of-column.result c.offset.result c.write_joined.new.block _ c.if-at-gt0.true
    c.requires.within.lane c.column_of-column.ensures.within c.column_of-column.ensures.value st
    (c.write_joined.ensures table st addressed)
    c.offset.ensures.value c.xor_into.ensures

pub returns-then-column-lt2 : goal.returns-then-column-lt2
returns-then-column-lt2 c = λ table st addressed.
    new_first _ c.args.h0.now c.args.at _ c.column_of-column.result _ c.if-at-gt0.false c.if-column-lt2.true c.column_of-column.ensures.value c.first_block.ensures

pub returns-else-column-lt2 : goal.returns-else-column-lt2
returns-else-column-lt2 c = λ table st addressed.
    new_joined _ c.args.h0.now c.args.at _ c.column_of-column.result _ c.if-at-gt0.false c.if-column-lt2.false c.column_of-column.ensures.value
    (c.write_joined-else-column-lt2.ensures table st addressed)
