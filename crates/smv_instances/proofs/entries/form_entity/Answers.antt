use Rattle.smv_instances.proofs.ListSteps.{map_map}
use Rattle.smv_instances.specs.Abstract as plain
use Rattle.smv_instances.specs.Entries.{Entity}
use Rattle.smv_parser.specs.View.{tree_of}
use Rattle.std.proofs.Common.{ap, sym}
use Rattle.smv_instances.proofs.entries.form_entity.Goals as goal

pub returns-in-Instance : goal.returns-in-Instance
returns-in-Instance c =
    rw (c.as_slice.ensures.value, c.in-Instance.is)
    (ap (Entity.Instance c.in-Instance.process c.in-Instance.module) (sym (map_map plain.expr tree_of c.in-Instance.actuals.items)))
