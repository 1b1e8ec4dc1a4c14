-- Below the index are the bytes of the words.
use Rattle.std.proofs.Common.{◌≡◌, ◌*◌, length, take}
use Rattle.byte_words.specs.Words.{bytes_of_words}
use Rattle.byte_words.proofs.words.write_words.Given as goal

abbrev pub invariant-words : goal.invariant-words
invariant-words l = record {
  long : length l.out ≡ 8 * length l.words;
  written : take (8 * l.i) l.out ≡ bytes_of_words (take l.i l.words);
}
