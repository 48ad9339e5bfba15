use Rattle.std.proofs.Common.{◌≡◌, arith, subst, length}
use Rattle.std.proofs.lemmas.Result.{err_from_is_err_and}
use Rattle.smv_instances.specs.Instances.{all_entries}
use Rattle.smv_names.specs.Nodes.{entries_before}
use Rattle.smv_names.specs.Definitions.{AreDefinedUpTo}
use Rattle.smv_names.proofs.AllDefined.{all_defined}
use Rattle.smv_names.proofs.DefinitionLemmas.{all_silent, bodies_all, none_before}
use Rattle.smv_names.proofs.definitions.check_definitions.Goals as goal

pub loop-i-init : goal.loop-i-init
loop-i-init c = λ p ready. none_before p

pub returns-in_err-check_body-clause-refused : goal.returns-in_err-check_body-clause-refused
returns-in_err-check_body-clause-refused c = λ p ready.
    let q = err_from_is_err_and c.from_residual.result c.from_residual.ensures.1 in
    rw (q.1, q.2) (c.in_err-check_body.ensures p ready (c.loop-i.invariant p ready))

pub returns-clause-silent : goal.returns-clause-silent
returns-clause-silent c = λ p ready.
    let full : entries_before p c.loop-i.i ≡ length (all_entries p) = bodies_all p c.loop-i.i (omega (arith, c.loop-i-test.false, c.len-i-end.ensures p ready.targets_are.started.instances_are)) in
    all_silent p (entries_before p c.loop-i.i) (omega (arith, full)) (c.loop-i.invariant p ready)

pub returns-clause-defined : goal.returns-clause-defined
returns-clause-defined c = λ p ready.
    let full : entries_before p c.loop-i.i ≡ length (all_entries p) = bodies_all p c.loop-i.i (omega (arith, c.loop-i-test.false, c.len-i-end.ensures p ready.targets_are.started.instances_are)) in
    all_defined p c.args.instances.now ready.targets_are.started.instances_are (subst (λ n. AreDefinedUpTo p n) full (c.loop-i.invariant p ready))
