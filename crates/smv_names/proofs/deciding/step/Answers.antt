use Rattle.std.proofs.Common.{subst, Some, None}
use Rattle.smv_names.specs.declared.walk.Outcome.{Outcome}
use Rattle.smv_names.specs.Passed.{Deciding}
use Rattle.smv_names.proofs.StateLemmas.{finished}
use Rattle.smv_names.proofs.deciding.step.Goals as goal

pub returns-in-Found-clause-steps : goal.returns-in-Found-clause-steps
returns-in-Found-clause-steps c p started keeps =
    finished p c.args.targets.now.states c.set.new.self c.args.stack.now.items c.args.top (Some c.in-Found.target) keeps c.set.ensures
    (subst (λ (o : Outcome). Deciding p c.args.targets.now.states c.args.top o) c.in-Found.is (c.in_ok-target.ensures p started))

pub returns-in-Nothing-clause-steps : goal.returns-in-Nothing-clause-steps
returns-in-Nothing-clause-steps c p started keeps =
    finished p c.args.targets.now.states c.set-in-Nothing.new.self c.args.stack.now.items c.args.top None keeps c.set-in-Nothing.ensures
    (subst (λ (o : Outcome). Deciding p c.args.targets.now.states c.args.top o) c.in-Nothing.is (c.in_ok-target.ensures p started))
