-- The blocks that are seen are there, and are the latest.
use Rattle.std.proofs.Common.{arith}
use Rattle.argon_kdf.specs.Shapes.{shape}
use Rattle.argon_kdf.specs.Slices.{slices_of}
use Rattle.argon_kdf.proofs.ReadingLemmas.{before_low, other_there, own_there, referred_low}
use Rattle.argon_kdf.proofs.SegmentLemmas.{joined_seen}
use Rattle.argon_kdf.proofs.segment.write_joined.Goals as goal

pub seen-previous-requires-clause-own : goal.seen-previous-requires-clause-own
seen-previous-requires-clause-own c =
    let x = shape c.args.layout in
    own_there x (slices_of c.args.memory.now) c.args.segment.now c.args.at c.column_before.result
    (omega (arith, c.args.layout.wide)) c.requires.readable
    (λ first. before_low x c.args.at c.column_before.result (c.requires.begun first) c.column_before.ensures.value)

pub seen-previous-requires-clause-other : goal.seen-previous-requires-clause-other
seen-previous-requires-clause-other c =
    let x = shape c.args.layout in
    other_there x (slices_of c.args.memory.now) c.args.segment.now c.args.at c.column_before.result
    (omega (arith, c.args.layout.wide)) c.requires.within c.requires.readable c.column_before.ensures.within
    (λ first. before_low x c.args.at c.column_before.result (c.requires.begun first) c.column_before.ensures.value)

pub seen-requires-clause-own : goal.seen-requires-clause-own
seen-requires-clause-own c =
    let x = shape c.args.layout in
    own_there x (slices_of c.args.memory.now) c.args.segment.now c.args.at c.reference_column-column.result
    (omega (arith, c.args.layout.wide)) c.requires.readable
    (λ first. referred_low x c.args.at c.reference_word-word.result c.reference_lane-lane.result
    c.reference_column-column.result c.args.layout.wide c.requires.within first (c.requires.begun first)
    c.reference_lane-lane.ensures.value c.reference_column-column.ensures.value)

pub seen-requires-clause-other : goal.seen-requires-clause-other
seen-requires-clause-other c =
    let x = shape c.args.layout in
    other_there x (slices_of c.args.memory.now) c.args.segment.now c.args.at c.reference_column-column.result
    (omega (arith, c.args.layout.wide)) c.requires.within c.requires.readable c.reference_column-column.ensures.within
    (λ first. referred_low x c.args.at c.reference_word-word.result c.reference_lane-lane.result
    c.reference_column-column.result c.args.layout.wide c.requires.within first (c.requires.begun first)
    c.reference_lane-lane.ensures.value c.reference_column-column.ensures.value)

pub returns : goal.returns
returns c = λ table begun addressed.
    joined_seen _ (slices_of c.args.memory.now) c.args.segment.now table c.args.at c.column_before.result c.reference_word-word.result c.reference_lane-lane.result c.reference_column-column.result _ _ _
    c.args.layout.wide c.requires.within c.column_before.ensures.within c.column_before.ensures.value c.seen-previous.ensures
    (c.reference_word-word.ensures c.args.layout addressed) c.reference_lane-lane.ensures.within c.reference_lane-lane.ensures.value
    c.reference_column-column.ensures.within c.reference_column-column.ensures.value c.seen.ensures begun c.join.ensures
