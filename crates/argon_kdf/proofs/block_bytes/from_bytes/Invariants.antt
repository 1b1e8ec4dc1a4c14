use Rattle.std.proofs.Common.{◌≡◌, length, take, map}
use Rattle.std.specs.List.{range_with_len}
use Rattle.blake2_core.specs.Words.{word_at}
use Rattle.argon_kdf.proofs.block_bytes.from_bytes.Given as goal

abbrev pub invariant-words : goal.invariant-words
invariant-words l = record {
  long : length l.block ≡ 128;
  written : take l.i l.block ≡ map (word_at l.bytes) (range_with_len 0 l.i);
}
