use Rattle.std.proofs.Common.{◌≡◌, Ok, List, [], ◌∷◌, sym, ◌∙◌, ap, pos}
use Rattle.kripke_model.specs.declared.expressions.Value.{Value}
use Rattle.kripke_model.specs.declared.expressions.Value.TheVariants.{Number}
use Rattle.kripke_model.specs.Reading.{term_of}
use Rattle.kripke_model.specs.Evaluation.{Checked, eval}
use Rattle.single_states.specs.Summary.{summarized, single_of}
use Rattle.single_states.proofs.EvalLemmas.{eval_good}
use Rattle.single_states.proofs.StepLemmas.{one_value, same_value_at}
use Rattle.single_states.proofs.steps.holds.Goals as goal

pub returns-in-Ok : goal.returns-in-Ok
returns-in-Ok c =
    let e : Checked (List Value) = eval c.args.model.now (term_of c.args.expr.now) c.args.s.now c.args.t.now in
    let good = eval_good c.args.model.now (term_of c.args.expr.now) c.args.s.now c.args.t.now c.requires in
    let p : single_of (summarized e) ≡ Ok c.in-Ok.value = ap single_of (sym c.summarize.ensures) ∙ sym c.single_of.ensures ∙ c.in-Ok.is in
    let q : e ≡ Ok (c.in-Ok.value ∷ []) = one_value e good c.in-Ok.value p in
    ((λ h. q ∙ ap (λ v. Ok (v ∷ [])) (c.is_one.ensures.0 h)), (λ h. c.is_one.ensures.1 (same_value_at c.in-Ok.value (Number (pos 1)) (sym q ∙ h))))
