use Rattle.std.proofs.Common.{◌∙◌}
use Rattle.text_words.proofs.LineFeedLemmas.{line_feed_found}
use Rattle.text_words.proofs.lines.line_end.Goals as goal

pub returns : goal.returns
returns c = c.unwrap_or.ensures ∙ line_feed_found c.args.text.now c.memchr.result c.memchr.ensures
