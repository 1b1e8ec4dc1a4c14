use Rattle.std.proofs.Common.{length, arith, subst, sym}
use Rattle.byte_words.specs.Bytes.{AreBytes}
use Rattle.short_bytes.proofs.FilledLemmas.{filled}
use Rattle.short_bytes.proofs.filled.Filled.of.Goals as goal

pub invariant_of-result : goal.invariant_of-result
invariant_of-result g c =
    filled g.row.N (length c.args.bytes.now) c.copy_from_slice.new.self (omega arith) (omega arith)
    (subst AreBytes (sym c.copy_from_slice.ensures.after) (λ i. omega (arith, c.type_inv.bytes i)))
