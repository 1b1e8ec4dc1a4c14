use Rattle.std.proofs.Common.{◌+◌, sym, ◌∙◌, arith}
use Rattle.std.proofs.lemmas.Bool.{eqb-true}
use Rattle.script_lang.proofs.ReadingLemmas.{nonempty, shorter}
use Rattle.script_faults.proofs.FaultLemmas.{fault_unended, fault_met, fault_passed, fault_none, few_before}
use Rattle.script_faults.proofs.faulty_lines.line_fault_after.Goals as goal

pub returns-then-not-line : goal.returns-then-not-line
returns-then-not-line c = record {
  value =
      fault_unended (c.lines.number + 1) c.lines.callers c.lines.rest.now c.next_line-line.result.bytes.now _ c.lines.invariant.told
      (rw c.if-not-line.true at c.next_line-line.ensures.pieces) (rw c.if-not-line.true at c.next_line-line.ensures.whole)
      (nonempty c.lines.rest.now (sym c.is_empty.ensures ∙ c.lines-test.true));
}

pub returns-in-Err : goal.returns-in-Err
returns-in-Err c = record {
  value =
      fault_met (c.lines.number + 1) c.lines.callers c.lines.rest.now c.next_line-line.result.bytes.now c.next_line-line.result.rest.now _ c.in-Err.fault c.in_ok-after.field-0 c.lines.invariant.told
      (rw c.if-not-line.false at c.next_line-line.ensures.pieces) c.in-Err.is c.in_ok-after.ensures.fault;
}

pub lines-preserved : goal.lines-preserved
lines-preserved c =
    let more = rw c.in-Ok.is at c.in_ok-after.ensures.callers in
    record {
      told =
          fault_passed (c.lines.number + 1) c.lines.callers c.in-Ok.after c.lines.rest.now c.next_line-line.result.bytes.now c.next_line-line.result.rest.now _ c.in_ok-after.field-0 c.lines.invariant.told
          (rw c.if-not-line.false at c.next_line-line.ensures.pieces) c.in-Ok.is c.in_ok-after.ensures.fault more;
      counted =
          let less = shorter c.lines.rest.now c.next_line-line.result.bytes.now c.next_line-line.result.rest.now (rw c.if-not-line.false at c.next_line-line.ensures.whole) in
          omega (arith, c.lines.invariant.counted);
      callers = few_before c.lines.number c.lines.callers c.in-Ok.after c.next_line-line.result.bytes.now more c.lines.invariant.callers;
    }

pub returns : goal.returns
returns c = record {
  value = fault_none (c.lines.number + 1) c.lines.callers c.lines.rest.now _ c.lines.invariant.told (eqb-true _ _ (sym c.is_empty.ensures ∙ c.lines-test.false));
}
