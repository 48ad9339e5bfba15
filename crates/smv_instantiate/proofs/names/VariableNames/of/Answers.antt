use Rattle.std.proofs.Common.{◌≡◌}
use Rattle.kripke_model.specs.System.{Variable}
use Rattle.smv_instantiate.proofs.PathSteps.{variable_added}
use Rattle.smv_instantiate.proofs.names.VariableNames.of.Goals as goal

pub loop-variable-preserved : goal.loop-variable-preserved
loop-variable-preserved c =
    let same : c.as_str.result.now ≡ c.variable-item.result.name = first_of (cc c.as_str.ensures, search c.as_str.ensures) in
    variable_added (λ (v : Variable). v.name) c.args.variables.now c.loop-variable.variable-index c.variable-item.result c.as_str.result.now c.loop-variable.names c.insert.new.self _
    c.requires.distinct c.loop-variable-test.true c.variable-item.is same c.loop-variable.invariant c.in_ok-insert.ensures.added c.in_ok-insert.ensures.names
