use Rattle.std.proofs.Common.{◌≡◌, ◌+◌, length}
use Rattle.script_faults.specs.GrammarFaults as spec
use Rattle.script_faults.proofs.faulty_lines.words_fault.Given as goal

-- what is left decides
abbrev pub invariant-kinds : goal.invariant-kinds
invariant-kinds l = record {
  told : spec.words_fault (l.place + 1) l.left l.words ≡ spec.words_fault 1 l.kinds l.fn.words;
  counted : l.place + length l.left ≡ length l.kinds;
}

abbrev pub decreases-kinds : goal.decreases-kinds
decreases-kinds l = length l.left
