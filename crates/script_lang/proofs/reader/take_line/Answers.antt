use Rattle.std.proofs.Common.{refl}
use Rattle.script_lang.specs.Statements.{statement_of}
use Rattle.script_lang.specs.Reading.{after_line}
use Rattle.script_lang.proofs.ReadingLemmas.{line_added, line_not_added}
use Rattle.script_lang.proofs.reader.take_line.Goals as goal

pub returns-then-branch : goal.returns-then-branch
returns-then-branch c =
    line_added (after_line c.args.number c.args.sections.now.items (statement_of c.args.line.now)) c.add_line.new.sections.items _ c.in_ok-add_line.ensures c.if-branch.true

pub returns-else-branch : goal.returns-else-branch
returns-else-branch c = (
  line_not_added (after_line c.args.number c.args.sections.now.items (statement_of c.args.line.now)) c.add_line.new.sections.items _ c.in_ok-add_line.ensures c.if-branch.false,
  refl,
)
