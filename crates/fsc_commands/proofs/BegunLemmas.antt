-- Calls that complete the steps are a beginning of them too.
use Rattle.std.proofs.Common.{ℕ}
use Rattle.mount_model.specs.Port.{PlacedCalls}
use Rattle.reply_text.specs.Logged.{PlacedLogged}
use Rattle.fsc_commands.specs.Steps.{Steps}
use Rattle.fsc_commands.specs.Steps.Steps.{Done}
use Rattle.fsc_commands.specs.MadeCalls.{MadeCalls, Begun}

-- the whole of the steps is a beginning of them
pub made_begins : {P A : Type 0} {after_calls : PlacedCalls → P → Type 0} {port : P} {left before_left most : ℕ} {steps : Steps A} {value : A} {old new : PlacedLogged}
    → MadeCalls after_calls port left before_left most steps value old new → Begun after_calls port most steps
made_begins {value = value} made =
    record { made = made.made; rest = Done value; reached_by_call = made.reached_by_call; begins = made.follows; few = made.few }
