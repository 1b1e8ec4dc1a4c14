-- All bytes are zeros, before the search and after each of its steps.
use Rattle.std.proofs.Common.{◌≡◌, length, take, replicate}
use Rattle.byte_words.proofs.wiping.wipe.Given as goal

abbrev pub invariant-zeros : goal.invariant-zeros
invariant-zeros l = record {
  all : l.bytes ≡ replicate (length l.fn.bytes) 0;
  zeros : take l.i l.bytes ≡ replicate l.i 0;
}
