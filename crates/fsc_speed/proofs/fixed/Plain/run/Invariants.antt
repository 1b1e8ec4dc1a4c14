use Rattle.fsc_speed.proofs.fixed.Plain.run.Given as goal

abbrev pub ghosts-encrypt_names : goal.ghosts-encrypt_names
ghosts-encrypt_names a = record { name = a.blank.name; parts = a.blank.parts }
