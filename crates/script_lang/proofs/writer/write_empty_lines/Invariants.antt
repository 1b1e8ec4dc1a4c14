use Rattle.std.proofs.Common.{◌≡◌, ◌++◌}
use Rattle.script_lang.specs.Writing.{empty_lines}
use Rattle.script_lang.proofs.writer.write_empty_lines.Given as goal

abbrev pub invariant-empty : goal.invariant-empty
invariant-empty l = l.text.items ≡ l.fn.text.items ++ empty_lines l.counter
