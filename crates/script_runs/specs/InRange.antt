-- Calls that are in range, with their replies, since they are values of the program.
use Rattle.std.specs.Prelude.{All}
use Rattle.call_history.specs.Placed.{entries_of}
use Rattle.mount_model.specs.Port.{PlacedCalls}
use Rattle.reply_text.specs.Ranges.{EntryIsInRange}

-- each of them
abbrev pub AreInRange : PlacedCalls → Type 0
AreInRange placed = All EntryIsInRange (entries_of placed)

-- the port went from `old` to `new` by these calls, and each is in range
pub record RangedAfterCalls {P : Type 0} (after_calls : P → PlacedCalls → P → Type 0) (old : P)
    (calls : PlacedCalls)
    (new : P)
    : Type 0 where
  pub reached_by_call : after_calls old calls new
  pub ranged : AreInRange calls
