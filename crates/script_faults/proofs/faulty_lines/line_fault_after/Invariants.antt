use Rattle.std.proofs.Common.{◌≡◌, ◌≤◌, ◌+◌, length}
use Rattle.text_words.specs.Lines.{pieces_of}
use Rattle.script_faults.specs.LineFaults.{fault_from}
use Rattle.script_faults.proofs.faulty_lines.line_fault_after.Given as goal

-- no line so far is at fault, and `callers` callers are before what is left
abbrev pub invariant-lines : goal.invariant-lines
invariant-lines l = record {
  told : fault_from (l.lines + 1) l.before (pieces_of l.text) ≡ fault_from (l.number + 1) l.callers (pieces_of l.rest);
  counted : l.number + length l.rest ≤ l.lines + length l.text;
  callers : l.callers ≤ l.number;
}

abbrev pub decreases-lines : goal.decreases-lines
decreases-lines l = length l.rest
