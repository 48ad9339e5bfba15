use Rattle.kripke_model.specs.WellFormed.{ctl_of}
use Rattle.trace_loop.proofs.Filled.{spec_filled}
use Rattle.trace_loop.proofs.falsifying.falsifies.Goals as goal

pub fails_among-requires-clause-filled : goal.fails_among-requires-clause-filled
fails_among-requires-clause-filled c = spec_filled c.args.model.now (ctl_of c.args.formula.now) c.requires.formula c.rules_law.ensures.leaves
