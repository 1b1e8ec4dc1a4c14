use Rattle.reply_text.proofs.LineLemmas.{notes_tell}
use Rattle.reply_text.proofs.laws.note_lines_determine_their_notes.Goals as goal

pub returns : goal.returns
returns c = notes_tell
