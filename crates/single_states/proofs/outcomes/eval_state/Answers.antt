use Rattle.std.proofs.Common.{List, sym, ◌∙◌, ap}
use Rattle.kripke_model.specs.declared.expressions.Value.{Value}
use Rattle.kripke_model.specs.Reading.{term_of}
use Rattle.kripke_model.specs.Evaluation.{Checked, eval}
use Rattle.single_states.specs.Outcomes.{added, gathered}
use Rattle.single_states.proofs.EvalLemmas.{eval_good}
use Rattle.single_states.proofs.OutcomeLemmas.{added_to_none}
use Rattle.single_states.proofs.outcomes.eval_state.Goals as goal

pub returns-in-Ok : goal.returns-in-Ok
returns-in-Ok c =
    let e : Checked (List Value) = eval c.args.model.now (term_of c.args.expr.now) c.args.s.now c.args.t.now in
    sym (ap (λ r. gathered r c.gather.new.values.items) c.in-Ok.is)
    ∙ c.in_ok-gather.ensures
    ∙ ap (λ (vs : List Value). added vs e) c.new-values.ensures.items
    ∙ added_to_none e (eval_good c.args.model.now (term_of c.args.expr.now) c.args.s.now c.args.t.now c.requires)
