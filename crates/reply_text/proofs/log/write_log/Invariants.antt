use Rattle.std.proofs.Common.{◌≡◌, take}
use Rattle.reply_text.specs.Logged.{shown_from}
use Rattle.reply_text.proofs.log.write_log.Given as goal

abbrev pub invariant-entries : goal.invariant-entries
invariant-entries l = l.text.items ≡ shown_from 0 (take l.place l.history)
