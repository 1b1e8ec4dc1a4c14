use Rattle.mount_tests.proofs.on_a_mount.try_on_a_mount.Given as goal

abbrev pub ghosts-try_counted : goal.ghosts-try_counted
ghosts-try_counted g a = record { name = a.blank.name; parts = a.blank.parts }
