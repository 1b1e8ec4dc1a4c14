use Rattle.std.proofs.Common.{[]}
use Rattle.next_calls.proofs.CallerLemmas.{new_stands}
use Rattle.next_calls.proofs.caller.Caller.new.Goals as goal

pub returns-clause-awaits : goal.returns-clause-awaits
returns-clause-awaits g c =
    c.in_ok-go_on.ensures.awaits [] (new_stands c.args.seed.now c.args.number c.args.section.now c.new.result c.new-2.result.items c.new-3.result c.new.ensures c.new-2.ensures.items c.new-3.ensures)
