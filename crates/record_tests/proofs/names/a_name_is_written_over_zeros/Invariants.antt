use Rattle.record_tests.proofs.names.a_name_is_written_over_zeros.Given as goal

abbrev pub ghosts-written : goal.ghosts-written
ghosts-written g a = record { name = a.blank.name; parts = a.blank.parts }
