use Rattle.std.proofs.Common.{◌+◌, ◌<◌, arith, length}
use Rattle.std.proofs.lemmas.Result.{err_from_is_err_and}
use Rattle.smv_instances.specs.Entries.{entries}
use Rattle.smv_instances.specs.Instances.{instances, module_of}
use Rattle.smv_names.specs.Nodes.{entries_before}
use Rattle.smv_names.proofs.NodeLemmas.{entry_numbered}
use Rattle.smv_names.proofs.WaitLemmas.{member_at}
use Rattle.smv_names.proofs.DefinitionLemmas.{body_defined, first_refused_entry, next_defined}
use Rattle.smv_names.proofs.definitions.check_body.Goals as goal

pub check_entry-requires : goal.check_entry-requires
check_entry-requires c =
    let p = c.requires.0 in
    let s = member_at (instances p) c.args.i c.requires.2 in
    let count = c.entry_count-k-end.ensures p s.0 c.requires.1.targets_are.started.instances_are s.1 in
    let e = member_at (entries (module_of s.0)) c.loop-k.k (omega (arith, count, c.loop-k-test.true)) in
    (p, s.0, e.0, c.requires.1, s.1, e.1)

pub returns-in_err-check_entry : goal.returns-in_err-check_entry
returns-in_err-check_entry c = λ p ready have.
    let below : c.args.i < length (instances p) = omega (arith, c.requires.2, c.requires.1.targets_are.started.instances_are.are.lengths, ready.targets_are.started.instances_are.are.lengths) in
    let s = member_at (instances p) c.args.i below in
    let count = c.entry_count-k-end.ensures p s.0 ready.targets_are.started.instances_are s.1 in
    let e = member_at (entries (module_of s.0)) c.loop-k.k (omega (arith, count, c.loop-k-test.true)) in
    let q = err_from_is_err_and c.from_residual.result c.from_residual.ensures.1 in
    rw (q.1, q.2)
    (first_refused_entry p (entries_before p c.args.i + c.loop-k.k) s.0 e.0 c.in_err-check_entry.field-0.0 (c.loop-k.invariant p ready have) (entry_numbered p c.args.i c.loop-k.k s.0 e.0 s.1 e.1) (c.in_err-check_entry.ensures p s.0 e.0 ready s.1 e.1))

pub loop-k-preserved : goal.loop-k-preserved
loop-k-preserved c = λ p ready have.
    let below : c.args.i < length (instances p) = omega (arith, c.requires.2, c.requires.1.targets_are.started.instances_are.are.lengths, ready.targets_are.started.instances_are.are.lengths) in
    let s = member_at (instances p) c.args.i below in
    let count = c.entry_count-k-end.ensures p s.0 ready.targets_are.started.instances_are s.1 in
    let e = member_at (entries (module_of s.0)) c.loop-k.k (omega (arith, count, c.loop-k-test.true)) in
    next_defined p c.args.i c.loop-k.k s.0 e.0 (c.loop-k.invariant p ready have) s.1 e.1 (c.in_ok-check_entry.ensures p s.0 e.0 ready s.1 e.1)

pub returns : goal.returns
returns c = λ p ready have.
    let below : c.args.i < length (instances p) = omega (arith, c.requires.2, c.requires.1.targets_are.started.instances_are.are.lengths, ready.targets_are.started.instances_are.are.lengths) in
    let s = member_at (instances p) c.args.i below in
    let count = c.entry_count-k-end.ensures p s.0 ready.targets_are.started.instances_are s.1 in
    body_defined p c.args.i c.loop-k.k s.0 (c.loop-k.invariant p ready have) s.1 (omega (arith, count, c.loop-k-test.false))
