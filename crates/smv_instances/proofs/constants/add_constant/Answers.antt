use Rattle.std.proofs.Common.{◌≡◌, refl, ◌∙◌, ap, sym, [], ◌∷◌, ◌++◌, Some}
use Rattle.std.specs.List.{cons_option}
use Rattle.smv_instances.specs.Plain.{plain_constant}
use Rattle.smv_instances.specs.Instances.{atom, distinct_names}
use Rattle.smv_instances.proofs.SymbolLemmas.{names_step}
use Rattle.smv_instances.proofs.constants.add_constant.Goals as goal

pub returns-in_ok-insert-in-Name : goal.returns-in_ok-insert-in-Name
returns-in_ok-insert-in-Name c = λ seen e.
    let is : atom (plain_constant c.args.constant.now) ≡ Some c.in-Name.name = rw c.in-Name.is refl in
    names_step seen c.as_str.result.now c.args.symbols.now c.insert.new.self c.in_ok-insert-in-Name.field-0 e c.in_ok-insert-in-Name.ensures.added c.in_ok-insert-in-Name.ensures.names
    ∙ ap (λ x. distinct_names (seen ++ (x ∷ []))) c.as_str.ensures
    ∙ ap (λ o. distinct_names (seen ++ cons_option o [])) (sym is)
