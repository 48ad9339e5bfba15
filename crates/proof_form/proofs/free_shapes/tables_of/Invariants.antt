use Rattle.std.proofs.Common.{take}
use Rattle.proof_form.specs.ShapeParts.{AreTables}
use Rattle.proof_form.proofs.free_shapes.tables_of.Given as goal

-- the formulas so far have their tables
abbrev pub invariant-loop-formula : goal.invariant-loop-formula
invariant-loop-formula l = AreTables (take l.formula-index l.formulas) l.tables.items
