use Rattle.record_tests.proofs.names.stored_name_lengths_and_round_trip.Given as goal

abbrev pub ghosts-stored_once : goal.ghosts-stored_once
ghosts-stored_once g a = record { name = a.blank.name; parts = a.blank.parts }
