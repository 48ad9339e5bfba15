use Rattle.fair_fixpoint.specs.SatSets.{pin_bound}
use Rattle.fair_rules.specs.FreePart.{constraint_nodes}
use Rattle.kripke_model.specs.Ctl.{Ctl}
use Rattle.kripke_model.specs.Term.{Term}
use Rattle.path_laws.specs.StateCount.{state_count}
use Rattle.smv_session.proofs.Budget.{judging_fits}
use Rattle.smv_session.proofs.Ready.{met_by}
use Rattle.trace_check.proofs.Members.{spec_is}
use Rattle.smv_session.proofs.replaying.answer_over.Goals as goal

pub returns-in-Ok : goal.returns-in-Ok
returns-in-Ok c = λ bytes spelled.
    c.replayed.ensures c.args.model.now c.args.limit bytes spelled c.in-Ok.ensures.judged

pub returns-in-Err-Full : goal.returns-in-Err-Full
returns-in-Err-Full c = λ bytes spelled.
    let m = c.args.model.now in
    let call = rw c.in-Err-Full.field-0-is at c.in-Err-Full.ensures.call in
    let j = c.args.file.now.spec in
    let fits = judging_fits m j _ (spec_is m j (Ctl.Leaf (Term.Var 0)) c.requires.trace.spec)
    c.state_count_law.ensures in
    c.unanswered_trace.ensures m bytes spelled
    (met_by m c.args.limit (pin_bound m (constraint_nodes m) (state_count m)) fits _ _ c.requires.ready _ call)
