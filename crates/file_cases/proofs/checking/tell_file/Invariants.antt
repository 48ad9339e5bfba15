use Rattle.file_cases.proofs.checking.tell_file.Given as goal

abbrev pub ghosts-is_checkable : goal.ghosts-is_checkable
ghosts-is_checkable a = record { name = a.blank.name; parts = a.blank.parts }

abbrev pub ghosts-tell_blocks : goal.ghosts-tell_blocks
ghosts-tell_blocks a = record { name = a.blank.name; parts = a.blank.parts }
