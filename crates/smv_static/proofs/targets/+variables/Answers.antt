use Rattle.std.proofs.Common.{◌++◌, List, sym, ◌∙◌, ap}
use Rattle.kripke_model.specs.declared.expressions.Expr.{Expr}
use Rattle.kripke_model.specs.declared.expressions.Arm.{Arm}
use Rattle.kripke_model.specs.Term.{Term}
use Rattle.kripke_model.specs.Reading.{term_of, terms_in, arms_in}
use Rattle.kripke_model.specs.Static.{variables_in, variables_in_elements, variables_in_arms}
use Rattle.kripke_model.proofs.ReadingLemmas.{braces_term, case_term}
use Rattle.smv_static.proofs.ResultLemmas.{on_ok}
use Rattle.smv_static.proofs.targets.+variables.Goals as goal

pub push_variables-returns-in-Braces : goal.push_variables-returns-in-Braces
push_variables-returns-in-Braces t c =
    let row = c.args.row.now in
    on_ok c.push_element_variables.result (λ e.
    e
    ∙ ap (λ (xs : List Expr). row ++ variables_in_elements (terms_in xs)) c.deref-in-Braces.ensures.value
    ∙ ap (λ (t : Term). row ++ variables_in t) (sym (ap term_of c.in-Braces.is ∙ braces_term c.in-Braces.elements)))
    c.push_element_variables.ensures

pub push_variables-returns-in-Case : goal.push_variables-returns-in-Case
push_variables-returns-in-Case t c =
    let row = c.args.row.now in
    on_ok c.push_arm_variables.result (λ e.
    e
    ∙ ap (λ (xs : List Arm). row ++ variables_in_arms (arms_in xs)) c.deref-in-Case.ensures.value
    ∙ ap (λ (t : Term). row ++ variables_in t) (sym (ap term_of c.in-Case.is ∙ case_term c.in-Case.arms)))
    c.push_arm_variables.ensures
