use Rattle.std.proofs.Common.{◌∙◌, ap}
use Rattle.smv_parser.specs.View.{form}
use Rattle.smv_parser.proofs.Views.{path_form}
use Rattle.smv_instances.specs.Abstract as abstract
use Rattle.smv_names.proofs.walk.path_of.Goals as goal

pub returns-in-Path-clause-some : goal.returns-in-Path-clause-some
returns-in-Path-clause-some c = ap abstract.form_expr (ap (λ z. form z) c.in-Path.is ∙ path_form c.in-Path.path)
