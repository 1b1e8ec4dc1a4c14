use Rattle.std.proofs.Common.{◌++◌, ap, sym, ◌∙◌}
use Rattle.reply_text.specs.Logged.{shown_text}
use Rattle.reply_text.proofs.LogLemmas.{shown_from-none, shown_from-more}
use Rattle.reply_text.proofs.log.write_log.Goals as goal

pub entries-init : goal.entries-init
entries-init c = c.new-text.ensures.items ∙ sym shown_from-none

pub entries-preserved : goal.entries-preserved
entries-preserved c =
    c.in_ok-put_shown.ensures
    ∙ ap (λ text. text ++ shown_text c.entries.place c.index-history-place.result) c.entries.invariant
    ∙ sym (shown_from-more c.args.history.now c.entries.place c.index-history-place.result c.entries-test.true c.index-history-place.is)
