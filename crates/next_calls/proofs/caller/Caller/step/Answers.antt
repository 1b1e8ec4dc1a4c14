use Rattle.std.proofs.Common.{◌≤◌, length, ap, ◌∙◌, arith}
use Rattle.fsc_session.proofs.RunLemmas.{there}
use Rattle.next_calls.proofs.CallerLemmas.{none_left, call_next, command_ended}
use Rattle.next_calls.proofs.caller.Caller.step.Goals as goal

pub returns-then-self-commands-clause-goes_on : goal.returns-then-self-commands-clause-goes_on
returns-then-self-commands-clause-goes_on g c =
    let i = c.self.inside in
    let all = c.if-self-commands.true ∙ ap (λ commands. length commands) c.as_slice-commands.ensures in
    let past : length i.section.now.commands ≤ i.next = omega (arith, all) in
    λ placed so. none_left _ _ _ _ _ _ _ i.waiting _ _ placed c.self.view_is past c.replace.ensures.after so

pub returns-in-Call-clause-goes_on : goal.returns-in-Call-clause-goes_on
returns-in-Call-clause-goes_on g c =
    let i = c.self.inside in
    let here = there _ _ _ _ c.as_slice-commands.ensures c.self.invariant.1 c.if-self-commands.false c.index-commands-self.is in
    λ placed so. call_next c.args.seed.now i.caller i.section.now i.next i.listing c.next_call.new.entries i.replies.items c.next_call.new.replies.items i.notes
    i.waiting c.replace-in-Call.new.dest c.args.self.now placed c.index-commands-self.result c.in_ok-next.next c.in-Call.call c.self.view_is here
    c.in_ok-next.ensures.next c.in_ok-next.ensures.replies c.in-Call.is c.replace-in-Call.ensures.after so

pub returns-in_ok-note-in-Ended-clause-goes_on : goal.returns-in_ok-note-in-Ended-clause-goes_on
returns-in_ok-note-in-Ended-clause-goes_on g c =
    let i = c.self.inside in
    let here = there _ _ _ _ c.as_slice-commands.ensures c.self.invariant.1 c.if-self-commands.false c.index-commands-self.is in
    λ placed so. command_ended c.args.seed.now i.caller i.section.now i.next i.listing c.next_call.new.entries c.retain_last_listing.new.entries i.replies.items c.next_call.new.replies.items
    i.notes c.note.new.notes i.waiting c.args.self.now placed c.index-commands-self.result c.in_ok-next.next c.in-Ended.outcome c.self.view_is here
    c.in_ok-next.ensures.next c.in_ok-next.ensures.replies c.in-Ended.is c.in_ok-retain_last_listing-in-Ended.ensures c.in_ok-note-in-Ended.ensures.noted so
