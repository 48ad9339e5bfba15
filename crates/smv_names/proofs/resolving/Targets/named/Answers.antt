use Rattle.std.proofs.Common.{subst, List, IfOk}
use Rattle.smv_parser.specs.declared.expressions.PathPart.{PathPart}
use Rattle.smv_instances.specs.Program.{Path}
use Rattle.smv_names.specs.Written.{followed}
use Rattle.smv_names.specs.Ready.{NamesNode}
use Rattle.smv_names.proofs.resolving.Targets.named.Goals as goal

pub returns : goal.returns
returns c p s all at =
    subst (λ (parts : List PathPart). IfOk c.named_by.result (NamesNode p s (followed (Path.Here c.args.path.now.line c.args.path.now.first) parts))) c.deref.ensures.value
    (c.named_by.ensures p s c.args.path.now.line all at)
