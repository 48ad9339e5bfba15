use Rattle.std.proofs.Common.{subst}
use Rattle.smv_instances.specs.Plain.{plain_expr}
use Rattle.smv_names.specs.Definitions.{IsCircularBy}
use Rattle.smv_names.proofs.DefinitionLemmas.{circular_refused, straight_checked}
use Rattle.smv_names.proofs.definitions.check_defined.Goals as goal

pub returns-then-is_circular : goal.returns-then-is_circular
returns-then-is_circular c = λ p s e ready at stands line is.
    circular_refused p s e c.args.line (plain_expr c.args.right.now) line is (subst (λ b. IsCircularBy p s e.name b) c.if-is_circular.true (c.is_circular.ensures p s e ready.targets_are.started.nodes_are ready.ordered at stands))

pub returns : goal.returns
returns c = λ p s e ready at stands line is.
    straight_checked p s e (plain_expr c.args.right.now) c.check_right.result is (subst (λ b. IsCircularBy p s e.name b) c.if-is_circular.false (c.is_circular.ensures p s e ready.targets_are.started.nodes_are ready.ordered at stands))
    (c.check_right.ensures p s ready.targets_are at ready.numbers_are)
