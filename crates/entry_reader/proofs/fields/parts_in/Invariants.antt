use Rattle.std.proofs.Common.{◌≡◌, length, map, take}
use Rattle.std.specs.List.{slice_split}
use Rattle.percent_encoding.specs.Percent.{percent_decode}
use Rattle.script_words.specs.Path.{is_slash}
use Rattle.entry_reader.proofs.fields.parts_in.Given as goal

-- the parts so far are those of the pieces so far
abbrev pub invariant-pieces : goal.invariant-pieces
invariant-pieces l = record {
  can : (goal.iterator-pieces).can_next l.piece-iterator;
  ends : (goal.iterator-pieces).is_finite l.piece-iterator;
  told : l.path ≡ map percent_decode (take (length l.yielded) (slice_split is_slash l.text));
}
