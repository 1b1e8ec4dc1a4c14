use Rattle.std.proofs.Common.{◌≡◌, take}
use Rattle.std.specs.List.{flat_map}
use Rattle.reply_text.specs.Notes.{notes_text}
use Rattle.log_check.proofs.ending.notes_of.Given as goal

-- those of the callers that were passed
abbrev pub invariant-callers : goal.invariant-callers
invariant-callers l = l.text.items ≡ notes_text (flat_map (λ caller. caller.notes) (take l.number l.callers))
