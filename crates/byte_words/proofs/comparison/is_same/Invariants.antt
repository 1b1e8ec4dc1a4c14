-- The difference is that of the bytes so far.
use Rattle.byte_words.proofs.SameLemmas.{IsDifference}
use Rattle.byte_words.proofs.comparison.is_same.Given as goal

abbrev pub invariant-bytes : goal.invariant-bytes
invariant-bytes l = IsDifference l.one l.other l.i l.difference
