use Rattle.std.proofs.Common.{[], ◌∷◌}
use Rattle.call_history.specs.Entries.{entry}
use Rattle.turn_lock.proofs.shared.Shared.call.Given as goal

abbrev pub ghosts-enter : goal.ghosts-enter
ghosts-enter g a = record { said = entry a.who a.call.now (g.M.Machine.reply a.lent.now) ∷ [] }
