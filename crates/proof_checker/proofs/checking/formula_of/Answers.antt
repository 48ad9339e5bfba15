use Rattle.std.proofs.Common.{◌-◌, arith}
use Rattle.proof_lines.proofs.WholeTests.{formula_there}
use Rattle.proof_checker.proofs.checking.formula_of.Goals as goal

pub returns : goal.returns
returns c =
    formula_there c.args.model.now c.formulas-formulas.result.now c.formulas-formulas.ensures c.args.spec (c.args.spec - 1) (omega (arith, c.if-after-eq0.false)) (omega (arith, c.if-after-eq0.false, c.if-after-formulas.false))
    c.index-formulas-after.result c.index-formulas-after.is
