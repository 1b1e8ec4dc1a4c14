-- The first blocks are encrypted counters.
use Rattle.std.proofs.Common.{◌≡◌, ◌+◌, ◌*◌, ◌%◌, ◌^◌, ◌++◌, drop}
use Rattle.aes_core.specs.Aes.{encrypted_block}
use Rattle.byte_words.specs.Blocks.{first_blocks}
use Rattle.byte_words.specs.Numbers.{big_endian_bytes}
use Rattle.key_wrap.proofs.counter.fill_keystream.Given as goal

abbrev pub invariant-counters : goal.invariant-counters
invariant-counters l =
    l.stream ≡ first_blocks (λ j. encrypted_block l.cipher (big_endian_bytes 16 ((l.first + j) % 2 ^ 128))) l.j ++ drop (16 * l.j) l.fn.stream
