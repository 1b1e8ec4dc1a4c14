-- Below x⁸ the power is one bit.
use Rattle.std.proofs.Common.{arith}
use Rattle.aes_core.proofs.Tables.{power_of_x_is}
use Rattle.aes_core.proofs.key_schedule.round_constant.Goals as goal

pub returns : goal.returns
returns c = power_of_x_is _ (omega arith)
