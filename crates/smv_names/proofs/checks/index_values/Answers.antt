use Rattle.std.proofs.Common.{◌+◌, sym, subst, arith, reverse, take}
use Rattle.std.proofs.lemmas.Option.{slice_get_within}
use Rattle.smv_instances.specs.Instances.{instances}
use Rattle.std.specs.List.{AllZip}
use Rattle.smv_names.specs.Expands.{IsIndex}
use Rattle.smv_names.specs.Known.{IsIndexValue}
use Rattle.smv_names.proofs.CheckLemmas.{bracket_at, bad_there, value_more, values_all_there}
use Rattle.smv_names.proofs.checks.index_values.Goals as goal

pub index_value-requires : goal.index_value-requires
index_value-requires c =
    let p = c.requires.0 in
    let b = bracket_at p c.args.indexes.now c.requires.1 c.loop-bracket.bracket-index c.bracket-item.result c.requires.4 c.loop-bracket-test.true c.bracket-item.is in
    (p, c.requires.2, slice_get_within (instances p) c.bracket-item.result.scope b.0.scope b.2.scope_is, c.requires.3)

pub returns-in_default : goal.returns-in_default
returns-in_default c = λ p bs targets numbers are.
    let k = c.loop-bracket.bracket-index in
    let b = bracket_at p c.args.indexes.now bs k c.bracket-item.result are c.loop-bracket-test.true c.bracket-item.is in
    bad_there p bs k b.0 b.1 (subst (λ z. IsIndexValue p b.0 z) c.in_default.is (c.in_ok-value.ensures p b.0 targets numbers b.2))

pub loop-bracket-preserved : goal.loop-bracket-preserved
loop-bracket-preserved c = λ p bs targets numbers are.
    let k = c.loop-bracket.bracket-index in
    let b = bracket_at p c.args.indexes.now bs k c.bracket-item.result are c.loop-bracket-test.true c.bracket-item.is in
    subst (λ z. AllZip (IsIndex p) (take (k + 1) (reverse bs)) z) (sym c.in_ok-push.ensures.items)
    (value_more p (reverse bs) k b.0 c.loop-bracket.values.items c.in-Some.value b.1 (subst (λ z. IsIndexValue p b.0 z) c.in-Some.is (c.in_ok-value.ensures p b.0 targets numbers b.2))
    (c.loop-bracket.invariant p bs targets numbers are))

pub returns : goal.returns
returns c = λ p bs targets numbers are.
    values_all_there p c.args.indexes.now bs c.loop-bracket.bracket-index c.loop-bracket.values.items are (omega (arith, c.loop-bracket-test.false)) (c.loop-bracket.invariant p bs targets numbers are)
