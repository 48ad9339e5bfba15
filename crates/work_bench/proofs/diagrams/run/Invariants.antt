use Rattle.work_bench.proofs.diagrams.run.Given as goal

abbrev pub ghosts-carry : goal.ghosts-carry
ghosts-carry a = record { name = a.blank.name; parts = a.blank.parts }

abbrev pub ghosts-queens : goal.ghosts-queens
ghosts-queens a = record { name = a.blank.name; parts = a.blank.parts }

abbrev pub ghosts-counter : goal.ghosts-counter
ghosts-counter a = record { name = a.blank.name; parts = a.blank.parts }
