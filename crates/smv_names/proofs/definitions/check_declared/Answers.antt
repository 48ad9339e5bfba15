use Rattle.std.proofs.Common.{subst, map}
use Rattle.smv_instances.specs.Plain.{plain_expr}
use Rattle.smv_instances.specs.Instances.{Scope}
use Rattle.smv_instances.proofs.InstanceLemmas.{declared_child}
use Rattle.smv_names.specs.Definitions.{HasCircularBy}
use Rattle.smv_names.proofs.DefinitionLemmas.{declared_refused, declared_checked}
use Rattle.smv_names.proofs.definitions.check_declared.Goals as goal

pub returns-then-declares_circular : goal.returns-then-declares_circular
returns-then-declares_circular c = λ p s e process module_name ready at stands line is.
    let actuals = map plain_expr c.args.actuals.now in
    let child = declared_child p c.args.instances.now c.args.i s c.args.k e process module_name actuals ready.targets_are.started.instances_are at stands is in
    let inside = Scope.Inside s e.name process actuals child.0 in
    declared_refused p s e c.args.line process module_name actuals inside line is child.2
    (subst (λ b. HasCircularBy p inside b) c.if-declares_circular.true (c.declares_circular.ensures p s e inside ready.targets_are ready.ordered at stands child.2))

pub returns : goal.returns
returns c = λ p s e process module_name ready at stands line is.
    declared_checked p s e process module_name (map plain_expr c.args.actuals.now) c.check_actuals.result is
    (λ child leads. subst (λ b. HasCircularBy p child b) c.if-declares_circular.false (c.declares_circular.ensures p s e child ready.targets_are ready.ordered at stands leads))
    (c.check_actuals.ensures p s ready.targets_are at ready.numbers_are)
