use Rattle.std.proofs.Common.{◌≡◌, map, take}
use Rattle.kripke_model.specs.Ctl.{formula_of}
use Rattle.kripke_model.specs.WellFormed.{ctl_of}
use Rattle.smv_static.proofs.formulas.formulas_of.Given as goal

-- the formulas so far
abbrev pub invariant-loop-item : goal.invariant-loop-item
invariant-loop-item l = map ctl_of l.formulas.items ≡ map (λ c. formula_of c.expr) (take l.item-index l.items)
