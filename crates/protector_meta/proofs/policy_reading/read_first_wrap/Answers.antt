use Rattle.std.proofs.Common.{[], ◌+◌, ◌==◌, false, length, refl, inr, sym, ◌∙◌}
use Rattle.std.proofs.lemmas.Bool.{and_right}
use Rattle.protector_meta.proofs.WrapsReadingLaws.{at_piece, at_fault, at_wrap, first_next}
use Rattle.protector_meta.proofs.policy_reading.read_first_wrap.Goals as goal

pub returns-then-not-line-clause-refused : goal.returns-then-not-line-clause-refused
returns-then-not-line-clause-refused c =
    inr (refl, at_piece c.args.number [] c.args.text.now c.next_line-line.result.bytes.now (rw c.if-not-line.true at c.next_line-line.ensures.pieces) (and_right (length c.next_line-line.result.bytes.now == 0) false refl))

pub returns-in_default-clause-refused : goal.returns-in_default-clause-refused
returns-in_default-clause-refused c =
    inr (
      refl,
      at_fault c.args.number [] c.args.text.now c.next_line-line.result.bytes.now c.next_line-line.result.rest.now (rw c.if-not-line.false at c.next_line-line.ensures.pieces)
          (first_next c.next_line-line.result.bytes.now ∙ (sym c.read_wrap.ensures ∙ c.in_default.is)),
    )

pub returns-clause-first : goal.returns-clause-first
returns-clause-first c =
    at_wrap c.args.number (c.args.number + 1) [] c.in_ok-wraps.wraps c.in-Some.first c.args.text.now c.next_line-line.result.bytes.now c.next_line-line.result.rest.now (rw c.if-not-line.false at c.next_line-line.ensures.pieces)
    (first_next c.next_line-line.result.bytes.now ∙ (sym c.read_wrap.ensures ∙ c.in-Some.is)) c.in_ok-wraps.ensures refl
