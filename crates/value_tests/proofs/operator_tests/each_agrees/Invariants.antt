use Rattle.value_tests.proofs.operator_tests.each_agrees.Given as goal

abbrev pub ghosts-all_agree : goal.ghosts-all_agree
ghosts-all_agree a = record { name = a.blank.name; parts = a.blank.parts }
