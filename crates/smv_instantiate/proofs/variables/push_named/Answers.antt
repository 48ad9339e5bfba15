use Rattle.std.proofs.Common.{ap}
use Rattle.smv_instantiate.proofs.TypeSteps.{variable_next}
use Rattle.smv_instantiate.proofs.variables.push_named.Goals as goal

pub loop-name-preserved : goal.loop-name-preserved
loop-name-preserved c = variable_next c.args.variables.now.items c.loop-name.variables.items _ c.loop-name.yielded c.args.values.now c.args.line c.in-Some.name _ c.loop-name.invariant c.in_ok-push.ensures.items
    (ap (λ vs. record { name = c.in-Some.name; values = vs; line = c.args.line }) (c.in_ok-to_vec.ensures.items_if_clones_equal (λ x y e. e)))
