use Rattle.std.proofs.Common.{◌≡◌}
use Rattle.hmac_kdf.proofs.KeyBlock.{key_block}
use Rattle.hmac_kdf.proofs.keyed.padded_key.Given as goal

abbrev pub invariant-bytes : goal.invariant-bytes
invariant-bytes g l = l.pad ≡ key_block g.row.B l.byte l.key l.i
