use Rattle.bdd_tests.proofs.ops_tests.conjunction_of_two_parities.Given as goal

abbrev pub ghosts-parities : goal.ghosts-parities
ghosts-parities g a = record { name = a.blank.name; parts = a.blank.parts }
