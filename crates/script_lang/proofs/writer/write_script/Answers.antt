use Rattle.std.proofs.Common.{◌+◌, ◌++◌, length, ap, ◌∙◌, arith}
use Rattle.script_lang.specs.Writing.{commands_text}
use Rattle.script_lang.proofs.WritingLemmas.{sections_text-more, sections_text-end, script_text-line}
use Rattle.script_lang.proofs.SpelledLemmas.{IsWritable-spelled}
use Rattle.script_lang.specs.Script.{parsed_script}
use Rattle.script_lang.proofs.RoundTrip.{parsed_script-spelled}
use Rattle.script_lang.proofs.writer.write_script.Goals as goal

pub sections-init : goal.sections-init
sections-init c = record { written = rw c.new-text.ensures.items (script_text-line c.args.script.now); bound = omega arith }

pub overflow_add-line : goal.overflow_add-line
overflow_add-line c =
    let few = (IsWritable-spelled c.requires.0 c.args.script.now c.requires.1).0 in
    omega (arith, ap length c.as_slice-section-items.ensures)

pub sections-preserved : goal.sections-preserved
sections-preserved c =
    let is = rw c.as_slice-section-items.ensures at c.section-item.is in
    let size = ap length c.as_slice-section-items.ensures in
    record {
      written =
          sections_text-more c.sections.text.items c.write_commands.new.text.items _ c.sections.line c.in_ok-line.line c.sections.section-index c.section-item.result c.args.script.now
          (omega (arith, size)) is
          (c.in_ok-line.ensures.written ∙ ap (λ text. text ++ commands_text (c.sections.line + 1) c.section-item.result.commands) c.in_ok-write_caller.ensures)
          c.in_ok-line.ensures.next c.sections.invariant.written;
      bound = omega (arith, c.in_ok-line.ensures.bound);
    }

pub returns-clause-value : goal.returns-clause-value
returns-clause-value c =
    c.from_vec.ensures
    ∙ sections_text-end c.sections.text.items _ c.sections.line c.sections.section-index c.args.script.now
    (omega (arith, ap length c.as_slice-section-items.ensures)) c.sections.invariant.written

pub returns-clause-reads_back : goal.returns-clause-reads_back
returns-clause-reads_back c =
    ap parsed_script (c.from_vec.ensures
    ∙ sections_text-end c.sections.text.items _ c.sections.line c.sections.section-index c.args.script.now
    (omega (arith, ap length c.as_slice-section-items.ensures)) c.sections.invariant.written)
    ∙ parsed_script-spelled c.args.script.now c.requires
