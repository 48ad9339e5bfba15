use Rattle.std.proofs.Common.{◌≡◌, arith, length}
use Rattle.smv_instances.specs.Instances.{processes}
use Rattle.smv_instantiate.proofs.ModelLemmas.{bodies_of, process_total}
use Rattle.smv_instantiate.proofs.models.flat_variables.Goals as goal

pub variables_of-requires : goal.variables_of-requires
variables_of-requires c =
    let r = c.requires in
    let total : length c.args.instances.now.processes.items ≡ length (processes r.0) = process_total r.0 c.args.instances.now r.1 in
    (r.0, bodies_of r.0 c.args.instances.now c.deref.result.now c.deref.ensures.value r.1 r.2, omega (arith, total, c.len.ensures, c.args.instances.now.processes.ok.0))

pub returns : goal.returns
returns c = λ p are written.
    let total : length c.args.instances.now.processes.items ≡ length (processes p) = process_total p c.args.instances.now are in
    c.variables_of.ensures p (bodies_of p c.args.instances.now c.deref.result.now c.deref.ensures.value are written) (omega (arith, total, c.len.ensures, c.args.instances.now.processes.ok.0))
