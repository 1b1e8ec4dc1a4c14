use Rattle.std.proofs.Common.{◌≡◌, ◌<◌, ◌+◌, [], length}
use Rattle.text_words.specs.Lines.{pieces_of}
use Rattle.protector_meta.specs.PolicyReading.{wraps_from}
use Rattle.protector_meta.proofs.policy_reading.read_wraps.Given as goal

abbrev pub invariant-lines : goal.invariant-lines
invariant-lines l = record {
  some : 0 < length l.wraps;
  told : wraps_from l.first_line [] (pieces_of l.text) ≡ wraps_from (l.first_line + length l.wraps) l.wraps (pieces_of l.rest);
}

abbrev pub decreases-lines : goal.decreases-lines
decreases-lines l = length l.rest
