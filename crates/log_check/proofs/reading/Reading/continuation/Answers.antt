use Rattle.std.proofs.Common.{ap, ◌∙◌}
use Rattle.next_calls.specs.Callers.{CallerView}
use Rattle.log_check.proofs.DueLemmas.{line_at, line_due, notes_due}
use Rattle.log_check.proofs.ReadingLemmas.{is_there}
use Rattle.log_check.proofs.reading.Reading.continuation.Goals as goal

pub returns-in_ok-line-in-Some : goal.returns-in_ok-line-in-Some
returns-in_ok-line-in-Some g c = λ seed script whole h read stand.
    line_due _ g.met.T.OneThread.reached_lawful seed script whole _ _ h _ _ _ c.in-Some.number c.caller-caller.result c.in-Some.call _ c.line-command.result
    (rw (c.as_slice.ensures.value, c.in-Some.is) at c.in_ok-number.ensures)
    (λ caller here. c.caller-caller.ensures ∙ ap (λ (v : CallerView). v.caller) (is_there c.args.self.now.callers.items c.in-Some.number c.index-own.result.now caller c.index-own.ensures here))
    (λ caller here. c.line-command.ensures ∙ ap line_at (is_there c.args.self.now.callers.items c.in-Some.number c.index-own.result.now caller c.index-own.ensures here))
    c.in_ok-line-in-Some.ensures read stand

pub returns-in_ok-notes_of-in-None : goal.returns-in_ok-notes_of-in-None
returns-in_ok-notes_of-in-None g c = λ seed script whole h read stand.
    notes_due _ seed script whole _ _ h c.args.self.now.callers.items _ _
    (rw (c.as_slice.ensures.value, c.in-None.is) at c.in_ok-number.ensures)
    (rw (c.as_slice-in-None.ensures.value) at c.in_ok-notes_of-in-None.ensures) read stand
