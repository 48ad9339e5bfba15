use Rattle.std.proofs.Common.{List, sym, ◌∙◌, ap}
use Rattle.kripke_model.specs.declared.expressions.Expr.{Expr}
use Rattle.kripke_model.specs.declared.expressions.Arm.{Arm}
use Rattle.kripke_model.specs.Reading.{term_of, terms_in, arms_in}
use Rattle.kripke_model.specs.Term.{has_path_operator, some_has_path_operator, arm_has_path_operator}
use Rattle.kripke_model.proofs.ReadingLemmas.{braces_term, case_term}
use Rattle.smv_static.proofs.operators.+operators.Goals as goal

pub uses_path_operator-returns-in-Braces : goal.uses_path_operator-returns-in-Braces
uses_path_operator-returns-in-Braces t c =
    c.element_uses_path_operator.ensures
    ∙ ap (λ (x : List Expr). some_has_path_operator (terms_in x)) c.deref-in-Braces.ensures.value
    ∙ ap has_path_operator (sym (ap term_of c.in-Braces.is ∙ braces_term c.in-Braces.elements))

pub uses_path_operator-returns-in-Case : goal.uses_path_operator-returns-in-Case
uses_path_operator-returns-in-Case t c =
    c.arm_uses_path_operator.ensures
    ∙ ap (λ (x : List Arm). arm_has_path_operator (arms_in x)) c.deref-in-Case.ensures.value
    ∙ ap has_path_operator (sym (ap term_of c.in-Case.is ∙ case_term c.in-Case.arms))
