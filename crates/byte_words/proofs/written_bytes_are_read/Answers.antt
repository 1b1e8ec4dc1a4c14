-- The laws on contents are the lemmas on them.
use Rattle.std.proofs.Common.{inl, inr}
use Rattle.byte_words.proofs.ContentsLemmas.{bytes_from-with_bytes, length-with_bytes, with_bytes_before, with_bytes_after}
use Rattle.byte_words.proofs.written_bytes_are_read.Goals as goal

pub returns-clause-written : goal.returns-clause-written
returns-clause-written c = bytes_from-with_bytes

pub returns-clause-others : goal.returns-clause-others
returns-clause-others c = λ at bytes contents i outside. elim outside [
  | inl before ↦ with_bytes_before at bytes contents i before
  | inr behind ↦ with_bytes_after at bytes contents i behind
]

pub returns-clause-grow : goal.returns-clause-grow
returns-clause-grow c = length-with_bytes
