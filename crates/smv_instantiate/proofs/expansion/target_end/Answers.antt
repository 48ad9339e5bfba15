use Rattle.std.proofs.Common.{ap, subst, Some}
use Rattle.smv_names.specs.declared.targets.Target.{Target}
use Rattle.smv_names.specs.Targets.{Resolves}
use Rattle.smv_instantiate.proofs.PathSteps.{is_reading, not_reading, reading_at, reading_end}
use Rattle.smv_instantiate.proofs.expansion.target_end.Goals as goal

pub node_end-requires : goal.node_end-requires
node_end-requires c =
    let h = c.requires in
    let at = reading_at h.0 h.1 h.2 c.in-Reading.home c.in-Reading.right c.in-Reading.node (subst (λ (t : Target). Resolves h.0 h.1 h.2 (Some t)) c.in-Reading.is h.4) in
    (h.0, at.scope, at.expr, h.3, at.text)

pub returns-in-Reading : goal.returns-in-Reading
returns-in-Reading c = λ p s q paths r.
    let node = c.in-Reading.node in
    let at = reading_at p s q c.in-Reading.home c.in-Reading.right node (subst (λ (t : Target). Resolves p s q (Some t)) c.in-Reading.is r) in
    reading_end p s q node c.node_end.result at (c.node_end.ensures p at.scope at.expr paths at.text)

pub returns-in-Stored : goal.returns-in-Stored
returns-in-Stored c = λ p s q paths r. not_reading p s q c.args.target.now (ap is_reading c.in-Stored.is) r

pub returns-in-Instance : goal.returns-in-Instance
returns-in-Instance c = λ p s q paths r. not_reading p s q c.args.target.now (ap is_reading c.in-Instance.is) r

pub returns-in-Constant : goal.returns-in-Constant
returns-in-Constant c = λ p s q paths r. not_reading p s q c.args.target.now (ap is_reading c.in-Constant.is) r
