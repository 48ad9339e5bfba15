use Rattle.work_bench.proofs.rechecking.recheck.Given as goal

abbrev pub ghosts-has_relation : goal.ghosts-has_relation
ghosts-has_relation a = record { name = a.blank.name; parts = a.blank.parts }

abbrev pub ghosts-first_answer : goal.ghosts-first_answer
ghosts-first_answer a = record { name = a.blank.name; parts = a.blank.parts }
