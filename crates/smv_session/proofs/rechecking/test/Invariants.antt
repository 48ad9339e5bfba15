use Rattle.smv_session.proofs.rechecking.test.Given as goal

abbrev pub ghosts-test_in_steps : goal.ghosts-test_in_steps
ghosts-test_in_steps a = record { name = a.blank.name; parts = a.blank.parts }
