use Rattle.log_check.proofs.FollowLemmas.{follows_on}
use Rattle.log_check.proofs.laws.next_calls_follow.Goals as goal

pub returns : goal.returns
returns c = follows_on
