-- How formulas are made of their parts, the largest parts without path operators being leaves.
use Rattle.std.specs.Prelude.{Bool, true, false}
use Rattle.kripke_model.specs.declared.expressions.BinOp.{BinOp}
use Rattle.kripke_model.specs.Term.{Term}
use Rattle.kripke_model.specs.Ctl.{Ctl}

abbrev pub negation : Ctl → Ctl
negation (Ctl.Leaf e) = Ctl.Leaf (Term.Not e)
negation f = Ctl.Not f

-- the formula of a connective
abbrev pub connected : BinOp → Ctl → Ctl → Ctl
connected BinOp.And f g = Ctl.And f g
connected BinOp.Or f g = Ctl.Or f g
connected BinOp.Implies f g = Ctl.Implies f g
connected BinOp.Iff f g = Ctl.Iff f g
connected op f g = f

abbrev pub joined_leaf : BinOp → Term → Ctl → Ctl
joined_leaf op a (Ctl.Leaf b) = Ctl.Leaf (Term.Binary op a b)
joined_leaf op a g = connected op (Ctl.Leaf a) g

abbrev pub joined : BinOp → Ctl → Ctl → Ctl
joined op (Ctl.Leaf a) g = joined_leaf op a g
joined op f g = connected op f g
