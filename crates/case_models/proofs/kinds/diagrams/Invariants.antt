use Rattle.case_models.proofs.kinds.diagrams.Given as goal

abbrev pub ghosts-sets_over : goal.ghosts-sets_over
ghosts-sets_over a = record { name = a.blank.name; parts = a.blank.parts }
