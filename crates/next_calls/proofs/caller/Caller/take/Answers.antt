use Rattle.next_calls.proofs.CallerLemmas.{replied, taken}
use Rattle.next_calls.proofs.caller.Caller.take.Goals as goal

pub returns-clause-awaits : goal.returns-clause-awaits
returns-clause-awaits g c =
    taken c.args.seed.now c.go_on.result c.args.self.now _ c.go_on.new.self c.args.reply c.go_on.ensures.awaits
    (replied c.args.seed.now _ _ _ _ _ _ _ _ c.args.self.now c.args.reply c.self.view_is c.in_ok-insert.ensures.items)
