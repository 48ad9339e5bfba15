use Rattle.bdd_tests.proofs.quantify_tests.quantification_of_two_literals.Given as goal

abbrev pub ghosts-renamed_literal : goal.ghosts-renamed_literal
ghosts-renamed_literal g a = record { name = a.blank.name; parts = a.blank.parts }

abbrev pub ghosts-literals : goal.ghosts-literals
ghosts-literals g a = record { name = a.blank.name; parts = a.blank.parts }
