use Rattle.std.proofs.Common.{◌≡◌, ◌-◌, length}
use Rattle.mount_model.specs.Port.{PlacedCalls}
use Rattle.next_calls.specs.EntriesSoFar.{IsCallerAfter}
use Rattle.next_calls.proofs.caller.Caller.go_on.Given as goal

abbrev pub invariant-commands : goal.invariant-commands
invariant-commands g l = record {
  caller : l.self.caller ≡ l.fn.self.caller;
  section : l.self.section ≡ l.fn.self.section;
  is_after : (placed : PlacedCalls) → IsCallerAfter l.seed l.fn.self placed → IsCallerAfter l.seed l.self placed;
}

abbrev pub decreases-commands : goal.decreases-commands
decreases-commands g l = length l.fn.self.section.commands - l.self.next
