use Rattle.std.proofs.Common.{◌+◌, sym, ◌∙◌, arith}
use Rattle.std.proofs.lemmas.Bool.{eqb-true}
use Rattle.std.proofs.lemmas.Result.{err_from_is_err_and}
use Rattle.script_lang.proofs.ReadingLemmas.{read_from-text, read_from-end, statements_of-nil, line_taken, line_refused, line_unended, few_callers, nonempty, shorter}
use Rattle.script_lang.proofs.reader.read_script.Goals as goal

pub lines-init : goal.lines-init
lines-init c = record {
  told = rw c.new-sections.ensures.items (read_from-text c.args.text.now);
  counted = omega arith;
  callers = rw c.new-sections.ensures.items (omega arith);
}

pub returns-then-not-line-clause-value : goal.returns-then-not-line-clause-value
returns-then-not-line-clause-value c =
    line_unended (c.lines.number + 1) c.lines.sections.items c.lines.rest.now c.next_line-line.result.bytes.now _ c.lines.invariant.told
    (rw c.if-not-line.true at c.next_line-line.ensures.pieces) (rw c.if-not-line.true at c.next_line-line.ensures.whole)
    (nonempty c.lines.rest.now (sym c.is_empty.ensures ∙ c.lines-test.true))

pub returns-in_err-take_line-clause-value : goal.returns-in_err-take_line-clause-value
returns-in_err-take_line-clause-value c =
    let p = err_from_is_err_and c.from_residual.result c.from_residual.ensures.1 in
    rw (p.1, p.2)
    (line_refused (c.lines.number + 1) c.lines.sections.items c.take_line.new.sections.items c.lines.rest.now c.next_line-line.result.bytes.now c.next_line-line.result.rest.now _ _ c.lines.invariant.told
    (rw c.if-not-line.false at c.next_line-line.ensures.pieces) c.in_err-take_line.ensures)

pub lines-preserved : goal.lines-preserved
lines-preserved c = record {
  told =
      line_taken (c.lines.number + 1) c.lines.sections.items c.take_line.new.sections.items c.lines.rest.now c.next_line-line.result.bytes.now c.next_line-line.result.rest.now _ c.lines.invariant.told
      (rw c.if-not-line.false at c.next_line-line.ensures.pieces) c.in_ok-take_line.ensures;
  counted =
      let less = shorter c.lines.rest.now c.next_line-line.result.bytes.now c.next_line-line.result.rest.now (rw c.if-not-line.false at c.next_line-line.ensures.whole) in
      omega (arith, c.lines.invariant.counted);
  callers = few_callers (c.lines.number + 1) c.lines.sections.items c.take_line.new.sections.items _ c.lines.invariant.callers c.in_ok-take_line.ensures;
}

pub returns-clause-value : goal.returns-clause-value
returns-clause-value c =
    c.lines.invariant.told
    ∙ rw (c.from_vec.ensures, statements_of-nil c.lines.rest.now (eqb-true _ _ (sym c.is_empty.ensures ∙ c.lines-test.false)))
    (read_from-end (c.lines.number + 1) c.lines.sections.items)
