use Rattle.std.proofs.Common.{◌≡◌, ◌++◌, drop, map, bit_xor, slice_index}
use Rattle.std.specs.List.{range_with_len}
use Rattle.argon_kdf.proofs.block.xor_into.Given as goal

abbrev pub invariant-words : goal.invariant-words
invariant-words l =
    l.block ≡ map (λ n. bit_xor (slice_index l.fn.block n) (slice_index l.other n)) (range_with_len 0 l.i)
    ++ drop l.i l.fn.block
