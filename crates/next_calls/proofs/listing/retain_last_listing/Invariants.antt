use Rattle.std.proofs.Common.{◌≡◌, length}
use Rattle.fsc_commands.specs.Steps.{names_in}
use Rattle.next_calls.proofs.listing.retain_last_listing.Given as goal

-- the entries that were dropped had no names
abbrev pub invariant-told : goal.invariant-told
invariant-told l = names_in l.entries ≡ names_in l.fn.entries

abbrev pub decreases-told : goal.decreases-told
decreases-told l = length l.entries
