use Rattle.mount_links.proofs.SaidLemmas.{steps_are_said}
use Rattle.mount_links.proofs.laws.steps_are_of_replies.Goals as goal

pub returns : goal.returns
returns c = steps_are_said
