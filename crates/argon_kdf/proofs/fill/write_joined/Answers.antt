use Rattle.argon_kdf.proofs.Steps.{joined_from}
use Rattle.argon_kdf.proofs.fill.write_joined.Goals as goal

pub returns : goal.returns
returns c = λ table st addressed.
    joined_from _ c.args.memory.now table c.args.at c.column_before.result c.offset.result c.reference_word-word.result c.reference_lane-lane.result c.reference_column-column.result c.offset-2.result _
    record {
      before_inside = c.column_before.ensures.within;
      before_is = c.column_before.ensures.value;
      from_is = c.offset.ensures.value;
      word_is = c.reference_word-word.ensures c.args.layout addressed;
      lane_low = c.reference_lane-lane.ensures.within;
      lane_is = c.reference_lane-lane.ensures.value;
      column_inside = c.reference_column-column.ensures.within;
      column_is = c.reference_column-column.ensures.value;
      to_is = c.offset-2.ensures.value;
    }
    c.requires.within.lane st c.join.ensures
