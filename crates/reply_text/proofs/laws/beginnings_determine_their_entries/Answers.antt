use Rattle.reply_text.proofs.BeginningLemmas.{beginnings_tell}
use Rattle.reply_text.proofs.laws.beginnings_determine_their_entries.Goals as goal

pub returns : goal.returns
returns c = beginnings_tell
