use Rattle.std.proofs.Common.{◌≡◌, ◌≤◌, ◌+◌, ◌*◌, ◌^◌, ◌++◌, drop}
use Rattle.script_lang.specs.Writing.{sections_text, script_text}
use Rattle.script_lang.proofs.writer.write_script.Given as goal

abbrev pub invariant-sections : goal.invariant-sections
invariant-sections l = record {
  written : l.text.items ++ sections_text l.line (drop l.section-index l.script) ≡ script_text l.script;
  bound : l.line ≤ 1 + l.section-index * (2 ^ 32 + 1);
}
