use Rattle.proof_checker.proofs.counting.tested.Given as goal

-- the steps don't fall below those that there are
abbrev pub ghosts-tested_above : goal.ghosts-tested_above
ghosts-tested_above g a = record { floor = a.steps }
