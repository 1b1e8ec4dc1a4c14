use Rattle.reply_text.proofs.LineLemmas.{different_replies}
use Rattle.reply_text.proofs.laws.different_replies_have_different_lines.Goals as goal

pub returns : goal.returns
returns c = different_replies
