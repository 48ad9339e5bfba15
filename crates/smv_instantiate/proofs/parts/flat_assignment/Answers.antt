use Rattle.std.proofs.Common.{refl, sym, subst, ◌<◌, arith}
use Rattle.smv_instances.specs.Plain.{plain_expr}
use Rattle.smv_names.specs.Expands.{Expands}
use Rattle.smv_names.specs.Written.{plain_path}
use Rattle.smv_instantiate.specs.Expansion.{IsSelected}
use Rattle.smv_instantiate.proofs.PassLemmas.{scope_below}
use Rattle.smv_instantiate.proofs.ProcessSteps.{process_few, process_place}
use Rattle.smv_instantiate.proofs.parts.flat_assignment.Goals as goal

pub unreachable-requires : goal.unreachable-requires
unreachable-requires c =
    let r = c.requires in
    subst (λ o. IsSelected r.0 r.1 (plain_path c.args.assignment.now.left.path) o) c.in_default.is (c.in_ok-var.ensures r.0 r.1 r.2.expands r.3) r.4.ready.left.0 r.4.ready.left.1

pub process-process-requires : goal.process-process-requires
process-process-requires c = let r = c.requires in (r.0, r.2.instances_are, scope_below r.0 c.args.i r.1 r.3)

pub overflow_cast-result : goal.overflow_cast-result
overflow_cast-result c =
    let r = c.requires in
    let few : c.process-process.result < 1024 = process_few r.0 r.2.instances_are.silent r.2.expands.written r.1 c.process-process.result (c.process-process.ensures r.0 r.1 r.2.instances_are r.3) in
    omega (arith, few)

pub returns : goal.returns
returns c = λ p s tables at h. (
  c.part_of.ensures,
  subst (λ o. IsSelected p s (plain_path c.args.assignment.now.left.path) o) c.in-Some.is (c.in_ok-var.ensures p s tables.expands at),
  sym (process_place p tables.instances_are.silent tables.expands.written s c.process-process.result (c.process-process.ensures p s tables.instances_are at)),
  subst (λ t. Expands p s (plain_expr c.args.assignment.now.right) t) (sym (c.in_ok-right.ensures p s h.ready.term tables.expands at h.written h.ready.expands h.ready.deep)) h.ready.expands,
  refl,
)
