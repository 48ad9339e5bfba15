use Rattle.std.proofs.Common.{◌≡◌, ◌++◌, ◌∷◌, [], ◌∙◌, ap, sym, subst, map}
use Rattle.std.specs.Prelude.{if◌then◌else◌}
use Rattle.kripke_model.specs.Evaluation.{among, distinct}
use Rattle.smv_instances.specs.Plain.{plain_constant}
use Rattle.smv_instances.specs.Instances.{value_of}
use Rattle.smv_instantiate.specs.Written.{IsWrittenConstant}
use Rattle.smv_instantiate.specs.Types.{IsNamed}
use Rattle.smv_instantiate.proofs.TypeSteps.{all_at, pushed_next, map-map, taken_all}
use Rattle.smv_instantiate.proofs.types.enumeration_values.Goals as goal

pub constant_value-requires-clause-written : goal.constant_value-requires-clause-written
constant_value-requires-clause-written c = all_at IsWrittenConstant plain_constant c.args.constants.now c.loop-constant.constant-index c.constant-item.result c.requires.written c.loop-constant-test.true c.constant-item.is

pub constant_value-requires-clause-named : goal.constant_value-requires-clause-named
constant_value-requires-clause-named c = all_at (IsNamed c.args.symbols.now) plain_constant c.args.constants.now c.loop-constant.constant-index c.constant-item.result c.requires.named c.loop-constant-test.true c.constant-item.is

pub loop-constant-preserved : goal.loop-constant-preserved
loop-constant-preserved c = pushed_next (λ k. value_of c.args.symbols.now (plain_constant k)) c.args.constants.now c.loop-constant.constant-index c.constant-item.result c.loop-constant.values.items c.push_new.new.values.items
    c.loop-constant-test.true c.constant-item.is c.loop-constant.invariant
    (subst (λ v. c.push_new.new.values.items ≡ (if among v c.loop-constant.values.items then c.loop-constant.values.items else c.loop-constant.values.items ++ v ∷ [])) c.constant_value.ensures c.in_ok-push_new.ensures)

pub returns : goal.returns
returns c = c.loop-constant.invariant
    ∙ ap (λ ks. distinct (map (λ k. value_of c.args.symbols.now (plain_constant k)) ks)) (taken_all c.args.constants.now c.loop-constant.constant-index c.loop-constant-test.false)
    ∙ ap distinct (sym (map-map (value_of c.args.symbols.now) plain_constant c.args.constants.now))
