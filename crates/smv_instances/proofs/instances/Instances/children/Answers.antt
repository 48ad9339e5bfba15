use Rattle.std.proofs.Common.{◌≡◌, sym, subst, Some}
use Rattle.std.specs.Prelude.{slice_get}
use Rattle.smv_instances.specs.Instances.{children, instances}
use Rattle.std.specs.List.{AllZip}
use Rattle.smv_instances.proofs.InstanceLemmas.{children_of_row}
use Rattle.smv_instances.proofs.instances.Instances.children.Goals as goal

pub returns : goal.returns
returns c = λ p s are at. subst (λ ns. AllZip (λ n d. slice_get (instances p) n ≡ Some d) ns (children p s)) (sym c.deref.ensures.value) (children_of_row p c.args.self.now c.args.i c.index.result.now s are c.index.ensures at)
