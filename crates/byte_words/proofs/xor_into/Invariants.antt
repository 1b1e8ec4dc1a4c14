-- Below the index is the xor, from it on the bytes that were passed.
use Rattle.std.proofs.Common.{◌≡◌, ◌++◌, take, drop}
use Rattle.byte_words.specs.Xor.{xor_bytes}
use Rattle.byte_words.proofs.xor_into.Given as goal

abbrev pub invariant-loop-i : goal.invariant-loop-i
invariant-loop-i l = l.target ≡ xor_bytes (take l.i l.fn.target) (take l.i l.fn.other) ++ drop l.i l.fn.target
