use Rattle.std.proofs.Common.{length, ap, arith}
use Rattle.script_lang.proofs.WritingLemmas.{commands_text-more, first_free_line-more, commands_text-end}
use Rattle.script_lang.proofs.writer.write_commands.Goals as goal

pub commands-preserved : goal.commands-preserved
commands-preserved c =
    let is = rw c.as_slice-command-items.ensures at c.command-item.is in
    let size = ap length c.as_slice-command-items.ensures in
    record {
      written =
          rw c.from-line.ensures
          (commands_text-more c.commands.text.items c.push.new.self.items _ c.commands.next c.commands.command-index c.command-item.result c.args.commands.now
          (omega (arith, size)) is
          (cc (c.in_ok-push.ensures.items, c.in_ok-write_verb.ensures, c.in_ok-write_empty_lines.ensures, c.saturating_sub.ensures, c.from-line.ensures))
          c.commands.invariant.written);
      behind =
          rw c.from-line.ensures
          (first_free_line-more c.commands.next c.commands.command-index _ c.command-item.result c.args.commands.now
          (omega (arith, size)) is c.commands.invariant.behind);
      bound = omega (arith, c.from-line.ensures);
    }

pub returns-clause-written : goal.returns-clause-written
returns-clause-written c =
    commands_text-end c.commands.text.items _ c.commands.next c.commands.command-index c.args.commands.now
    (omega (arith, ap length c.as_slice-command-items.ensures)) c.commands.invariant.written
