use Rattle.std.proofs.Common.{ℕ, arith, ◌∙◌, length-take, length-drop}
use Rattle.fsc_outside.proofs.WholeLemmas.{written_on}
use Rattle.fsc_outside.proofs.whole.write_all.Goals as goal

pub writing-preserved : goal.writing-preserved
writing-preserved g c = record {
  taken = written_on _ _ _ c.args.text.now c.writing.written c.in-Ok.count c.writing.invariant.taken c.in-Ok.ensures.bytes;
  quiet = c.in-Ok.ensures.cause.quiet ∙ c.writing.invariant.quiet;
  within =
      let bound = c.in-Ok.ensures.bound in
      let within = c.writing.invariant.within in
      omega (arith, length-take {A = ℕ}, length-drop {A = ℕ});
}
