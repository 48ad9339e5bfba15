use Rattle.trace_check.proofs.Verdicts.{path_of}
use Rattle.trace_check.proofs.judging.judge_formula.Goals as goal

pub judge_path-requires-clause-path : goal.judge_path-requires-clause-path
judge_path-requires-clause-path g c = path_of c.args.model.now c.args.lasso.now c.requires.lasso c.in_default.ensures
