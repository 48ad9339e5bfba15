use Rattle.std.proofs.Common.{◌≡◌, true, List, map, sym, ◌∙◌, ap, subst}
use Rattle.std.specs.Prelude.{All}
use Rattle.kripke_model.specs.Ctl.{formula_of}
use Rattle.kripke_model.specs.Static.{is_formula}
use Rattle.kripke_model.specs.System.{Condition}
use Rattle.smv_static.proofs.RuleLemmas.{specs_are_formulas, constraints_are_formulas, ruled}
use Rattle.smv_static.proofs.acceptance.accept.Goals as goal

pub formulas_of-requires : goal.formulas_of-requires
formulas_of-requires c = subst (λ (cs : List Condition). All (λ d. is_formula d.expr ≡ true) cs) (sym c.specs_of.ensures) (specs_are_formulas c.args.flat c.in_ok-check.ensures.ok)

pub formulas_of-requires-2 : goal.formulas_of-requires-2
formulas_of-requires-2 c = subst (λ (cs : List Condition). All (λ d. is_formula d.expr ≡ true) cs) (sym c.constraints_of.ensures) (constraints_are_formulas c.args.flat c.in_ok-check.ensures.ok)

pub invariant_of-result : goal.invariant_of-result
invariant_of-result c =
    ruled c.args.flat c.in_ok-check.ensures.ok c.in_ok-formulas.formulas.items c.in_ok-fair.fair.items c.requires
    (c.in_ok-formulas.ensures ∙ ap (map (λ (d : Condition). formula_of d.expr)) c.specs_of.ensures)
    (c.in_ok-fair.ensures ∙ ap (map (λ (d : Condition). formula_of d.expr)) c.constraints_of.ensures)
