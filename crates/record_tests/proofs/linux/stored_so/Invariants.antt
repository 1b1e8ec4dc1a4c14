use Rattle.record_tests.proofs.linux.stored_so.Given as goal

abbrev pub ghosts-stored_once : goal.ghosts-stored_once
ghosts-stored_once g a = record { name = a.blank.name; parts = a.blank.parts }
