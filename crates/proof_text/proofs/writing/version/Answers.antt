use Rattle.std.proofs.Common.{sym}
use Rattle.proof_text.proofs.WrittenLines.{first_version}
use Rattle.proof_text.proofs.writing.version.Goals as goal

pub returns-then-has_leaf_constraints : goal.returns-then-has_leaf_constraints
returns-then-has_leaf_constraints c = sym (first_version c.args.model.now (c.has_leaf_constraints.ensures.0 c.if-has_leaf_constraints.true))
