use Rattle.std.proofs.Common.{◌≡◌, ◌≤◌, ◌+◌, length}
use Rattle.script_lang.specs.Script.{parsed_script, statements_of}
use Rattle.script_lang.specs.declared.limits.TheConstants.{MAX_CALLERS}
use Rattle.script_lang.proofs.ReadingLemmas.{read_from}
use Rattle.script_lang.proofs.reader.read_script.Given as goal

abbrev pub invariant-lines : goal.invariant-lines
invariant-lines l = record {
  told : parsed_script l.text ≡ read_from (l.number + 1) l.sections.items (statements_of l.rest);
  counted : l.number + length l.rest ≤ length l.text;
  callers : length l.sections.items ≤ MAX_CALLERS;
}

abbrev pub decreases-lines : goal.decreases-lines
decreases-lines l = length l.rest
