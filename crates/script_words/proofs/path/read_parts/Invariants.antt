use Rattle.std.proofs.Common.{◌≡◌, ◌≤◌, length, drop}
use Rattle.std.specs.List.{slice_split}
use Rattle.script_words.specs.Path.{is_slash, parts_of}
use Rattle.script_words.specs.declared.limits.TheConstants.{MAX_PARTS}
use Rattle.script_words.proofs.PartSteps.{onto}
use Rattle.script_words.proofs.path.read_parts.Given as goal

-- the parts so far are those of the pieces so far
abbrev pub invariant-pieces : goal.invariant-pieces
invariant-pieces l = record {
  can : (goal.iterator-pieces).can_next l.piece-iterator;
  ends : (goal.iterator-pieces).is_finite l.piece-iterator;
  count : length l.parts ≡ length l.yielded;
  few : length l.parts ≤ MAX_PARTS;
  told : onto l.parts (parts_of (drop (length l.yielded) (slice_split is_slash l.text))) ≡ parts_of (slice_split is_slash l.text);
}
