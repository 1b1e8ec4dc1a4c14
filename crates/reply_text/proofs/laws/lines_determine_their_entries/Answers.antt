use Rattle.reply_text.proofs.LineLemmas.{lines_tell}
use Rattle.reply_text.proofs.laws.lines_determine_their_entries.Goals as goal

pub returns : goal.returns
returns c = lines_tell
