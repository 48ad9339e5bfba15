use Rattle.work_bench.proofs.tables.measure.Given as goal

abbrev pub ghosts-built : goal.ghosts-built
ghosts-built a = record { name = a.blank.name; parts = a.blank.parts }
