use Rattle.std.proofs.Common.{sym, ◌∙◌}
use Rattle.fsc_tool.proofs.PartLemmas.{behind_is, goes_on, nothing_ended, end_of_record, parts_in, shorter_is}
use Rattle.fsc_tool.proofs.splitting.split_input.Goals as goal

pub returns-then-not-line : goal.returns-then-not-line
returns-then-not-line c =
    nothing_ended c.args.input.now c.lines.rest.now c.lines.invariant.told c.next_line-line.result.bytes.now c.next_line-line.result.rest.now
    c.next_line-line.result.ended c.next_line-line.ensures.pieces c.if-not-line.true

pub returns-then-eq : goal.returns-then-eq
returns-then-eq c =
    parts_in c.args.input.now c.lines.rest.now c.lines.invariant.told c.next_line-line.result.bytes.now c.next_line-line.result.rest.now
    c.next_line-line.result.ended c.next_line-line.ensures.pieces c.lines.invariant.rest c.lines.invariant.shorter c.if-not-line.false
    c.next_line-line.ensures.whole (sym c.eq.ensures ∙ c.if-eq.true)

pub lines-preserved : goal.lines-preserved
lines-preserved c = record {
  told = goes_on c.args.input.now c.lines.rest.now c.lines.invariant.told c.next_line-line.result.bytes.now c.next_line-line.result.rest.now
      c.next_line-line.result.ended c.next_line-line.ensures.pieces c.lines.invariant.rest c.lines.invariant.shorter c.if-not-line.false
      c.next_line-line.ensures.whole (sym c.eq.ensures ∙ c.if-eq.false);
  rest = behind_is c.args.input.now c.lines.rest.now c.lines.invariant.told c.next_line-line.result.bytes.now c.next_line-line.result.rest.now
      c.next_line-line.result.ended c.next_line-line.ensures.pieces c.lines.invariant.rest c.lines.invariant.shorter c.if-not-line.false
      c.next_line-line.ensures.whole;
  shorter = shorter_is c.args.input.now c.lines.rest.now c.lines.invariant.told c.next_line-line.result.bytes.now c.next_line-line.result.rest.now
      c.next_line-line.result.ended c.next_line-line.ensures.pieces c.lines.invariant.rest c.lines.invariant.shorter c.if-not-line.false
      c.next_line-line.ensures.whole;
}

pub returns : goal.returns
returns c = end_of_record c.args.input.now c.lines.rest.now c.lines.invariant.told (sym c.is_empty.ensures ∙ c.lines-test.false)
