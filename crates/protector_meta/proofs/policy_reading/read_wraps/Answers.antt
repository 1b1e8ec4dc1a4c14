use Rattle.std.proofs.Common.{◌≡◌, ◌+◌, ◌==◌, [], length, append-nil, length-append, ◌∷◌, arith, sym, ap, ◌∙◌, inl, inr, Err}
use Rattle.std.specs.Prelude.{nat_lt}
use Rattle.std.proofs.lemmas.Bool.{and_left}
use Rattle.std.proofs.lemmas.Result.{err_from_is_err_and}
use Rattle.protector_meta.specs.declared.fault.MetaFault.TheVariants.{Bad}
use Rattle.protector_meta.proofs.WrapsReadingLaws.{at_piece, at_fault, at_wrap, at_empty, refused_by}
use Rattle.protector_meta.proofs.policy_reading.read_wraps.Goals as goal

pub returns-then-not-line : goal.returns-then-not-line
returns-then-not-line c =
    let whole : c.lines.rest.now ≡ c.next_line-line.result.bytes.now = (rw c.if-not-line.true at c.next_line-line.ensures.whole) ∙ append-nil _ in
    c.lines.invariant.told
    ∙ (at_piece (c.args.first_line + length c.lines.wraps) c.lines.wraps c.lines.rest.now c.next_line-line.result.bytes.now (rw c.if-not-line.true at c.next_line-line.ensures.pieces)
    (and_left (length c.next_line-line.result.bytes.now == 0) (nat_lt 0 (length c.lines.wraps))
    (ap (λ l. length l == 0) (sym whole) ∙ (sym c.is_empty.ensures ∙ c.lines-test.true)))
    ∙ ap (λ n. Err (Bad (c.args.first_line + n))) (sym c.len.ensures.length))

pub returns-in_err-add_line : goal.returns-in_err-add_line
returns-in_err-add_line c =
    let p = err_from_is_err_and c.from_residual-in_err-add_line.result c.from_residual-in_err-add_line.ensures.1 in
    rw (p.1, p.2) (refused_by _ (c.args.first_line + c.len.result) _ (
    elim c.in_err-add_line.ensures.refused [
      | inl none ↦ inl none
      | inr bad ↦ inr (
        bad.0,
        c.lines.invariant.told
            ∙ (at_fault (c.args.first_line + length c.lines.wraps) c.lines.wraps c.lines.rest.now c.next_line-line.result.bytes.now c.next_line-line.result.rest.now (rw c.if-not-line.false at c.next_line-line.ensures.pieces) bad.1
            ∙ ap (λ n. Err (Bad (c.args.first_line + n))) (sym c.len.ensures.length)),
      )
    ]))

pub lines-preserved : goal.lines-preserved
lines-preserved c =
    let added = c.in_ok-add_line.ensures.added in
    let long : length c.add_line.new.wraps ≡ length c.lines.wraps + 1 = ap length added.1.1 ∙ length-append c.lines.wraps (added.0 ∷ []) in
    record {
      some = omega arith;
      told =
          c.lines.invariant.told
          ∙ at_wrap (c.args.first_line + length c.lines.wraps) (c.args.first_line + length c.add_line.new.wraps) c.lines.wraps c.add_line.new.wraps added.0 c.lines.rest.now c.next_line-line.result.bytes.now c.next_line-line.result.rest.now
          (rw c.if-not-line.false at c.next_line-line.ensures.pieces) added.1.0 added.1.1 (omega arith);
    }

pub returns : goal.returns
returns c = c.lines.invariant.told ∙ at_empty (c.args.first_line + length c.lines.wraps) c.lines.wraps c.lines.rest.now c.lines.invariant.some (sym c.is_empty.ensures ∙ c.lines-test.false)
