use Rattle.mount_links.proofs.ShownLemmas.{shows_both}
use Rattle.mount_links.proofs.laws.logged_histories_are_of_the_calls.Goals as goal

pub returns : goal.returns
returns c = shows_both
