use Rattle.bdd_tests.proofs.ops_tests.operations_on_two_literals.Given as goal

abbrev pub ghosts-literals : goal.ghosts-literals
ghosts-literals g a = record { name = a.blank.name; parts = a.blank.parts }
