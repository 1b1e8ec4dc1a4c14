use Rattle.std.proofs.Common.{rules, sym}
use Rattle.call_history.specs.Entries.{entry}
use Rattle.turn_lock.proofs.Calls.{counts_at}
use Rattle.turn_lock.proofs.steps.enter.Goals as goal

pub fetch_add-place-requires : goal.fetch_add-place-requires
fetch_add-place-requires g c = (
  search rules,
  search rules,
  counts_at _ _ _ _ _ _ _
      (entry c.args.who c.args.call.now (g.M.Machine.reply c.args.lent.now)) (search rules) (search rules)
      (sym c.requires.turn.1) (search rules),
)
