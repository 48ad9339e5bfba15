use Rattle.value_tests.proofs.table_tests.counter.Given as goal

abbrev pub ghosts-counted_apart : goal.ghosts-counted_apart
ghosts-counted_apart a = record { name = a.blank.name; parts = a.blank.parts }
