use Rattle.std.proofs.Common.{sym, subst, IfOk}
use Rattle.smv_parser.specs.declared.expressions.PathPart.{PathPart}
use Rattle.smv_names.specs.declared.walk.Outcome.{Outcome}
use Rattle.smv_names.specs.Written.{extended}
use Rattle.smv_names.specs.Passed.{Walking}
use Rattle.smv_names.proofs.ResolveLemmas.{front_needs}
use Rattle.smv_names.proofs.walk.follow.Goals as goal

pub returns-in-Needs : goal.returns-in-Needs
returns-in-Needs c p s q started read front = front_needs p c.args.targets.now.states s q c.args.part.now c.in-Needs.at (subst (λ (o : Outcome). Walking p c.args.targets.now.states s q o) c.in-Needs.is front)

pub returns-in-Field : goal.returns-in-Field
returns-in-Field c p s q started read front =
    subst (λ (part : PathPart). IfOk c.field.result (Walking p c.args.targets.now.states s (extended q part))) (sym c.in-Field.is)
    (c.field.ensures p s q started (subst (λ (o : Outcome). Walking p c.args.targets.now.states s q o) c.in-Found.is front))

pub returns-in-Index : goal.returns-in-Index
returns-in-Index c p s q started read front =
    subst (λ (part : PathPart). IfOk c.element.result (Walking p c.args.targets.now.states s (extended q part))) (sym c.in-Index.is)
    (c.element.ensures p c.args.targets.now.states s q read (subst (λ (o : Outcome). Walking p c.args.targets.now.states s q o) c.in-Found.is front))
