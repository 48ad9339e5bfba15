use Rattle.std.proofs.Common.{sym, subst}
use Rattle.kripke_model.specs.Leaves.{IsLeafOf, IsModelLeaf}
use Rattle.kripke_model.specs.Term.{Term}
use Rattle.kripke_model.specs.WellFormed.{ctl_of}
use Rattle.truth_tests.proofs.collect_tests.state_of.Goals as goal

pub next_set-requires-clause-leaves : goal.next_set-requires-clause-leaves
next_set-requires-clause-leaves c =
    subst (λ f. (t : Term) → IsLeafOf t (ctl_of f) → IsModelLeaf c.args.model.now t) (sym c.formula-item.is)
    (c.spec_formulas-formula-items.ensures c.loop-formula.formula-index c.formula-item.result c.loop-formula-test.true)
