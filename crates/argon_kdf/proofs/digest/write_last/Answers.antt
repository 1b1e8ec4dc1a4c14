use Rattle.std.proofs.Common.{arith}
use Rattle.argon_kdf.proofs.Chains.{write_end}
use Rattle.argon_kdf.proofs.digest.write_last.Goals as goal

pub returns : goal.returns
returns c = write_end c.args.bytes.now _ c.args.value.now (omega arith) c.copy_from_slice.ensures.after
