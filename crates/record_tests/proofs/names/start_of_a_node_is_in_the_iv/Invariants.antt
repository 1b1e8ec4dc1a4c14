use Rattle.record_tests.proofs.names.start_of_a_node_is_in_the_iv.Given as goal

abbrev pub ghosts-stored_from : goal.ghosts-stored_from
ghosts-stored_from g a = record { name = a.blank.name; parts = a.blank.parts }
