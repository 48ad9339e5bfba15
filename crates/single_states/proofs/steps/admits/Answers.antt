use Rattle.std.proofs.Common.{◌≡◌, true, Ok, sym, ◌∙◌, ap}
use Rattle.kripke_model.specs.Reading.{term_of}
use Rattle.kripke_model.specs.Evaluation.{eval}
use Rattle.single_states.specs.Summary.{found}
use Rattle.single_states.proofs.StepLemmas.{found_true, true_found}
use Rattle.single_states.proofs.steps.admits.Goals as goal

pub returns-in-Ok : goal.returns-in-Ok
returns-in-Ok c =
    let m = c.args.model.now in
    let p : found c.args.v (eval c.args.model.now (term_of c.args.expr.now) c.args.s.now c.args.t.now) ≡ Ok c.in-Ok.found = sym c.has.ensures ∙ c.in-Ok.is in
    ((λ (e : c.in-Ok.found ≡ true). found_true _ c.args.v (p ∙ ap Ok e)), (λ h. let q = sym p ∙ true_found _ c.args.v h in cc))
