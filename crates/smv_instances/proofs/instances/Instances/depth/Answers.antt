use Rattle.smv_instances.proofs.InstanceLemmas.{is_row}
use Rattle.smv_instances.proofs.instances.Instances.depth.Goals as goal

pub returns : goal.returns
returns c = λ p s are at. (is_row p c.args.self.now c.args.i c.index.result.now s are c.index.ensures at).depth_is
