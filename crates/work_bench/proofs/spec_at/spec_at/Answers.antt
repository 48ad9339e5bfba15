use Rattle.work_bench.proofs.Specs.{named_leaves, named_spec}
use Rattle.work_bench.proofs.spec_at.spec_at.Goals as goal

pub returns-then-k-formulas-clause-spec : goal.returns-then-k-formulas-clause-spec
returns-then-k-formulas-clause-spec c =
    named_spec c.args.model.now c.spec_formulas-formulas.result.now c.args.before c.index-formulas-k.result c.spec_formulas-formulas.ensures.formulas c.if-k-formulas.true c.index-formulas-k.is

pub returns-then-k-formulas-clause-leaves : goal.returns-then-k-formulas-clause-leaves
returns-then-k-formulas-clause-leaves c =
    named_leaves c.args.model.now c.spec_formulas-formulas.result.now c.args.before c.index-formulas-k.result c.spec_formulas-formulas.ensures.leaves c.if-k-formulas.true c.index-formulas-k.is
