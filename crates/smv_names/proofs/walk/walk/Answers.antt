use Rattle.std.proofs.Common.{subst, IfOk}
use Rattle.smv_instances.specs.Program.{Path}
use Rattle.smv_names.specs.Written.{followed}
use Rattle.smv_names.specs.Passed.{Walking}
use Rattle.smv_names.proofs.walk.walk.Goals as goal

pub returns : goal.returns
returns c p s started read =
    subst (λ parts. IfOk c.walk_parts.result (Walking p c.args.targets.now.states s (followed (Path.Here c.args.path.now.line c.args.path.now.first) parts))) c.deref.ensures.value
    (c.walk_parts.ensures p s c.args.path.now.line started read)
