use Rattle.std.proofs.Common.{◌≡◌, ◌∙◌, arith, ap, sym, refl, length}
use Rattle.blake2_core.specs.Digest.{blake2b_digest}
use Rattle.blake2_core.proofs.StandardFacts.{length-blake2b_digest}
use Rattle.argon_kdf.proofs.Chains.{chained_next, first_halves_none, halves_more, halves_whole}
use Rattle.argon_kdf.proofs.digest.stretched.Goals as goal

pub halves-init : goal.halves-init
halves-init c = record {
  long = refl;
  full = omega arith;
  chained = λ m held. held;
  written = λ m held. sym (first_halves_none 1024 m);
}

pub halves-preserved : goal.halves-preserved
halves-preserved c = record {
  long = c.write_half.array_long;
  full = ap length c.next_value-value.ensures ∙ length-blake2b_digest 64 c.halves.value (omega arith);
  chained = λ m held.
      c.next_value-value.ensures ∙ ap (blake2b_digest 64) (c.halves.invariant.chained m held)
      ∙ sym (chained_next 1024 m c.halves.i);
  written = λ m held.
      halves_more m c.halves.bytes _ c.halves.value c.halves.i (omega arith) (omega arith)
      (c.halves.invariant.written m held)
      (c.halves.invariant.chained m held) c.write_half.ensures;
}

pub returns : goal.returns
returns c = λ m held.
    let done : c.halves.i ≡ 30 = omega arith in
    c.write_last.ensures
    ∙ rw ((rw done at (c.halves.invariant.written m held)), (rw done at (c.halves.invariant.chained m held)))
    (halves_whole m)
