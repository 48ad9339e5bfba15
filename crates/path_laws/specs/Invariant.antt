-- Invariants, and what violates them.
use Rattle.kripke_model.specs.declared.expressions.PathOp.{PathOp}
use Rattle.kripke_model.specs.Term.{Term}
use Rattle.kripke_model.specs.Ctl.{Ctl}
use Rattle.kripke_model.specs.System.{System, State}
use Rattle.kripke_model.specs.Evaluation.{Holds}

-- e holds for ever on every fair path
abbrev pub invariant : Term → Ctl
invariant e = Ctl.Quant PathOp.AG (Ctl.Leaf e)

-- the expression is not the one value 1
abbrev pub Violates : System → Term → State → Type 0
Violates m e s = Holds m e s s → ⊥
