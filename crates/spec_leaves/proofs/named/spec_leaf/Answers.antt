use Rattle.std.proofs.Common.{◌∙◌}
use Rattle.kripke_model.specs.Reading.{term_of}
use Rattle.spec_leaves.proofs.Plain.{leaf_read, model_leaf}
use Rattle.spec_leaves.proofs.named.spec_leaf.Goals as goal

pub returns-clause-leaf : goal.returns-clause-leaf
returns-clause-leaf c =
    let read = c.in_ok-formula.ensures in
    c.leaf_of.ensures
    ∙ leaf_read c.args.model.now c.rules_law.ensures.leaves c.formulas.result.now c.formulas.ensures
    c.args.j c.if-j-eq0.false c.in_ok-formula.formula.now read.lookup.3.0 read.lookup.1

pub returns-clause-of_model : goal.returns-clause-of_model
returns-clause-of_model c =
    let read = c.in_ok-formula.ensures in
    model_leaf c.args.model.now c.rules_law.ensures.leaves c.formulas.result.now c.formulas.ensures
    c.args.j c.if-j-eq0.false c.in_ok-formula.formula.now read.lookup.3.0 read.lookup.1
    (λ expr. term_of expr.now) c.leaf_of.result c.leaf_of.ensures
