use Rattle.std.proofs.Common.{◌≡◌, map, take}
use Rattle.kripke_model.specs.WellFormed.{ctl_of}
use Rattle.kripke_model.proofs.model_copies.copy_formulas.Given as goal

-- the formulas so far
abbrev pub invariant-loop-formula : goal.invariant-loop-formula
invariant-loop-formula l = map ctl_of l.copies.items ≡ map ctl_of (take l.formula-index l.formulas)
