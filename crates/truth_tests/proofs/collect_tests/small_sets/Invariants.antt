use Rattle.truth_tests.proofs.collect_tests.small_sets.Given as goal

abbrev pub ghosts-sets_over : goal.ghosts-sets_over
ghosts-sets_over a = record { name = a.blank.name; parts = a.blank.parts }
