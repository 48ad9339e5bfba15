use Rattle.std.proofs.Common.{codes, ap, ◌∙◌, ◌++◌}
use Rattle.kripke_model.specs.System.{variable_name}
use Rattle.trace_files.proofs.FrontLemmas.{three_fronts}
use Rattle.trace_files.proofs.fronts.behind_name.Goals as goal

pub returns : goal.returns
returns c =
    three_fronts (λ b. b.now) c.args.text.now (codes "  ") (variable_name c.args.model.now c.args.x) (codes " = ") _ _ c.in_ok-named.ensures
    (c.in_ok-valued.ensures ∙ ap (λ n. n ++ c.in_ok-valued.valued.now) c.variable_name.ensures) c.behind-3.result c.behind-3.ensures
