-- The tweak is that of the next block, and the blocks before it are done.
use Rattle.std.proofs.Common.{◌++◌}
use Rattle.aes_core.specs.Aes.{encrypted_block}
use Rattle.xts_mode.proofs.LoopLemmas.{GroupsDone, BlocksDone}
use Rattle.xts_mode.proofs.XtsKey.encrypt_unit.Given as goal

abbrev pub invariant-groups : goal.invariant-groups
invariant-groups l = GroupsDone (encrypted_block l.self-inside.cipher) (l.self-inside.cipher ++ l.self-inside.tweaker) l.fn.index l.fn.unit l.unit l.tweak l.g

abbrev pub invariant-units : goal.invariant-units
invariant-units l = BlocksDone (encrypted_block l.self-inside.cipher) (l.self-inside.cipher ++ l.self-inside.tweaker) l.fn.index l.fn.unit l.unit l.tweak l.j
