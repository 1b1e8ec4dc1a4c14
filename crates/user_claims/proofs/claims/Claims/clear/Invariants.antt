use Rattle.std.proofs.Common.{◌≡◌}
use Rattle.user_claims.specs.Claims.{without_id}
use Rattle.user_claims.specs.ClaimCounts.{count_of_id}
use Rattle.user_claims.proofs.claims.Claims.clear.Given as goal

abbrev pub invariant-loop-uid : goal.invariant-loop-uid
invariant-loop-uid l = without_id l.self l.id ≡ without_id l.initial.self l.id

abbrev pub decreases-loop-uid : goal.decreases-loop-uid
decreases-loop-uid l = count_of_id l.self l.id
