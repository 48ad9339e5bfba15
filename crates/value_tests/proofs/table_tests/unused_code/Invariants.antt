use Rattle.value_tests.proofs.table_tests.unused_code.Given as goal

abbrev pub ghosts-both_tables : goal.ghosts-both_tables
ghosts-both_tables a = record { name = a.blank.name; parts = a.blank.parts }
