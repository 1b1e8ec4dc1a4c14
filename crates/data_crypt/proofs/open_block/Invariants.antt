-- The units before this one are done.
use Rattle.std.proofs.Common.{◌≡◌, ◌++◌, ◌*◌, drop}
use Rattle.byte_words.specs.Blocks.{first_blocks}
use Rattle.xts_mode.specs.Xts.{xts_decrypted}
use Rattle.policy_ctx.specs.Policy.{unit_bytes}
use Rattle.data_crypt.proofs.UnitLemmas.{unit_by}
use Rattle.data_crypt.proofs.open_block.Given as goal

abbrev pub invariant-units : goal.invariant-units
invariant-units l = l.block ≡ first_blocks (unit_by (xts_decrypted l.key) l.fn.unit l.fn.first l.fn.block) l.i ++ drop (unit_bytes l.fn.unit * l.i) l.fn.block
