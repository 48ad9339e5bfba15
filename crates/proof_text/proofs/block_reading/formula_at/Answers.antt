use Rattle.proof_text.proofs.BlockForms.{formula_there}
use Rattle.proof_text.proofs.block_reading.formula_at.Goals as goal

pub returns : goal.returns
returns c = formula_there c.args.model.now c.formulas.result.now c.formulas.ensures c.index-formulas-spec.result c.args.spec c.requires c.index-formulas-spec.is
