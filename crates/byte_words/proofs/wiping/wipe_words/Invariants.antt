-- All words are zeros, before the search and after each of its steps.
use Rattle.std.proofs.Common.{◌≡◌, length, take, replicate}
use Rattle.byte_words.proofs.wiping.wipe_words.Given as goal

abbrev pub invariant-zeros : goal.invariant-zeros
invariant-zeros l = record {
  all : l.words ≡ replicate (length l.fn.words) 0;
  zeros : take l.i l.words ≡ replicate l.i 0;
}
