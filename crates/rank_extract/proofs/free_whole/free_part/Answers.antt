use Rattle.rank_extract.proofs.FreeOver.{none_whole}
use Rattle.rank_extract.proofs.free_whole.free_part.Goals as goal

pub returns-then-has_leaf_constraints-clause-whole : goal.returns-then-has_leaf_constraints-clause-whole
returns-then-has_leaf_constraints-clause-whole g c = none_whole c.args.model.now (c.has_leaf_constraints.ensures.0 c.if-has_leaf_constraints.true)
