use Rattle.std.proofs.Common.{◌+◌, length}
use Rattle.next_calls.proofs.BackLemmas.{IsShrunk, IsTakenBack}
use Rattle.next_calls.proofs.back.take_back.Given as goal

abbrev pub invariant-further : goal.invariant-further
invariant-further l = IsShrunk l.fn.entries l.entries (l.kept + l.count)

abbrev pub decreases-further : goal.decreases-further
decreases-further l = length l.entries

abbrev pub invariant-listed : goal.invariant-listed
invariant-listed l = IsTakenBack l.fn.entries l.entries l.replies.items l.kept l.count

abbrev pub decreases-listed : goal.decreases-listed
decreases-listed l = length l.entries
