use Rattle.turn_lock.proofs.shared.Shared.split.Given as goal

abbrev pub ghosts-cut : goal.ghosts-cut
ghosts-cut g a = record { at = a.at; give = a.give }
