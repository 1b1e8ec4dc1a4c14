use Rattle.std.proofs.Common.{◌≡◌, ◌≤◌, ◌+◌, ◌^◌, ◌++◌, drop}
use Rattle.script_lang.specs.Writing.{commands_text, first_free_line}
use Rattle.script_lang.proofs.writer.write_commands.Given as goal

abbrev pub invariant-commands : goal.invariant-commands
invariant-commands l = record {
  written : l.text.items ++ commands_text l.next (drop l.command-index l.commands) ≡ l.fn.text.items ++ commands_text l.first l.commands;
  behind : first_free_line l.next (drop l.command-index l.commands) ≡ first_free_line l.first l.commands;
  bound : l.next ≤ l.first + 2 ^ 32;
}
