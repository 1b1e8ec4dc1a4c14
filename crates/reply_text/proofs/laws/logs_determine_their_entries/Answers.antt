use Rattle.reply_text.proofs.LineLemmas.{logs_tell}
use Rattle.reply_text.proofs.laws.logs_determine_their_entries.Goals as goal

pub returns : goal.returns
returns c = logs_tell
