-- The difference grows by that of the next byte.
use Rattle.std.proofs.Common.{arith}
use Rattle.byte_words.proofs.SameLemmas.{IsDifference-more, IsDifference-whole}
use Rattle.byte_words.proofs.comparison.is_same.Goals as goal

pub bytes-preserved : goal.bytes-preserved
bytes-preserved c = IsDifference-more c.args.one.now c.args.other.now c.bytes.i c.bytes.difference c.bytes.invariant

pub returns : goal.returns
returns c =
    IsDifference-whole c.args.one.now c.args.other.now c.bytes.i c.bytes.difference (omega arith) (omega (arith, c.requires)) c.bytes.invariant
