use Rattle.rank_extract.proofs.Specs.{formula_is}
use Rattle.rank_extract.proofs.extraction.formula_of.Goals as goal

pub returns : goal.returns
returns c = formula_is c.args.model.now c.args.spec c.formulas.result.now c.formulas.ensures c.requires c.index-formulas-spec.result c.index-formulas-spec.is
