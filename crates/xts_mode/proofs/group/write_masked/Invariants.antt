-- The blocks before b are written.
use Rattle.std.proofs.Common.{◌≡◌, ◌*◌, ◌++◌, [], get_or, drop}
use Rattle.byte_words.specs.Blocks.{first_blocks}
use Rattle.byte_words.specs.Xor.{xor_bytes}
use Rattle.xts_mode.proofs.group.write_masked.Given as goal

abbrev pub invariant-blocks_of_group : goal.invariant-blocks_of_group
invariant-blocks_of_group l = l.group ≡ first_blocks (λ b. xor_bytes (get_or l.fn.blocks b []) (get_or l.fn.masks b [])) l.b ++ drop (16 * l.b) l.fn.group
