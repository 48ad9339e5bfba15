use Rattle.std.proofs.Common.{◌+◌, subst}
use Rattle.kripke_model.specs.Path.{at}
use Rattle.kripke_model.specs.Step.{Step}
use Rattle.kripke_model.specs.System.{State}
use Rattle.trace_check.specs.Judged.{StepsAt}
use Rattle.trace_check.proofs.Members.{one_more}
use Rattle.trace_check.proofs.places.first_break.Goals as goal

pub loop-n-preserved : goal.loop-n-preserved
loop-n-preserved c =
    let m = c.args.model.now in
    let p = c.args.lasso.now in
    one_more (StepsAt m p) c.loop-n.n c.loop-n.invariant
    (subst (λ (s : State). Step m s (at p (c.loop-n.n + 1))) c.at.ensures (subst (λ (t : State). Step m c.at.result.now t) c.at-in-loop-n.ensures (c.is_step.ensures.0 c.if-not-is_step.false)))
