use Rattle.parts_cases.proofs.builds.tell_build.Given as goal

abbrev pub ghosts-build_refusal : goal.ghosts-build_refusal
ghosts-build_refusal a = record { name = a.blank.name; parts = a.blank.parts }
