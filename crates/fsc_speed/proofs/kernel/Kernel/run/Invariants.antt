use Rattle.fsc_speed.proofs.kernel.Kernel.run.Given as goal

abbrev pub ghosts-walk_often : goal.ghosts-walk_often
ghosts-walk_often g a = record { name = a.blank.name; parts = a.blank.parts }
