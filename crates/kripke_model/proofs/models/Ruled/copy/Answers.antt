use Rattle.std.proofs.Common.{◌≡◌, map, rules, subst, sym, ◌∙◌}
use Rattle.kripke_model.specs.System.{System}
use Rattle.kripke_model.specs.WellFormed.{IsRuled, ctl_of}
use Rattle.kripke_model.proofs.models.Ruled.copy.Goals as goal

pub invariant_of-result : goal.invariant_of-result
invariant_of-result c =
    let i = c.self.invariant in
    let same : c.in_ok-copy.field-0 ≡ c.self.inside.flat = search rules in
    let formulas : map ctl_of c.in_ok-copy_formulas.field-0.items ≡ map ctl_of c.self.inside.formulas.items = search rules in
    let fair : map ctl_of c.in_ok-copy_formulas-2.field-0.items ≡ map ctl_of c.self.inside.fair.items = search rules in
    let kept : IsRuled c.self.inside.flat c.in_ok-copy_formulas.field-0.items c.in_ok-copy_formulas-2.field-0.items = record {
      flat = i.flat;
      assigned_once = i.assigned_once;
      current_alone = i.current_alone;
      acyclic = i.acyclic;
      next_allowed = i.next_allowed;
      formulas_allowed = i.formulas_allowed;
      formulas_are = formulas ∙ i.formulas_are;
      fair_are = fair ∙ i.fair_are;
    } in
    subst (λ (m : System). IsRuled m c.in_ok-copy_formulas.field-0.items c.in_ok-copy_formulas-2.field-0.items) (sym same) kept
