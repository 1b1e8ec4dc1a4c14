use Rattle.std.proofs.Common.{◌≡◌, length, take, map, bit_xor, slice_index}
use Rattle.std.specs.List.{range_with_len}
use Rattle.argon_kdf.proofs.block.write_xor.Given as goal

abbrev pub invariant-words : goal.invariant-words
invariant-words l = record {
  long : length l.block ≡ 128;
  written : take l.i l.block ≡ map (λ n. bit_xor (slice_index l.x n) (slice_index l.y n))
      (range_with_len 0 l.i);
}
