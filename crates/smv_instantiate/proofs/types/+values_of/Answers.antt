use Rattle.std.proofs.Common.{◌≡◌, ◌∙◌, ap, sym, subst, map, All, IfOk}
use Rattle.kripke_model.specs.Evaluation.{distinct}
use Rattle.smv_instances.specs.Plain.{plain_constant}
use Rattle.smv_instances.specs.Instances.{value_of, type_values}
use Rattle.smv_instantiate.specs.Written.{IsWrittenConstant, IsWrittenType}
use Rattle.smv_instantiate.specs.Types.{IsNamed, AreNamed}
use Rattle.smv_instantiate.proofs.TypeViews.{kind_type, constants_plain}
use Rattle.smv_instantiate.proofs.types.+values_of.Goals as goal

pub enumeration_values-requires-clause-written : goal.enumeration_values-requires-clause-written
enumeration_values-requires-clause-written t c = subst (λ xs. All IsWrittenConstant (map plain_constant xs)) (sym c.deref.ensures.value)
    (subst (All IsWrittenConstant) (constants_plain c.in-Enumeration.constants.items) ((subst (λ k. IsWrittenType (kind_type k)) c.in-Enumeration.is c.requires.written).1))

pub enumeration_values-requires-clause-named : goal.enumeration_values-requires-clause-named
enumeration_values-requires-clause-named t c = subst (λ xs. All (IsNamed c.args.symbols.now) (map plain_constant xs)) (sym c.deref.ensures.value)
    (subst (All (IsNamed c.args.symbols.now)) (constants_plain c.in-Enumeration.constants.items) (subst (λ k. AreNamed c.args.symbols.now (kind_type k)) c.in-Enumeration.is c.requires.named))

pub returns-in-Enumeration : goal.returns-in-Enumeration
returns-in-Enumeration t c = subst (λ k. IfOk c.enumeration_values.result (λ values. values.items ≡ type_values c.args.symbols.now (kind_type k))) (sym c.in-Enumeration.is)
    (subst (λ cs. IfOk c.enumeration_values.result (λ values. values.items ≡ distinct (map (value_of c.args.symbols.now) cs))) (ap (map plain_constant) c.deref.ensures.value ∙ sym (constants_plain c.in-Enumeration.constants.items)) c.enumeration_values.ensures)
