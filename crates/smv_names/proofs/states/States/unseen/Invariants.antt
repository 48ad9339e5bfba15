use Rattle.smv_instances.specs.Program.{Program}
use Rattle.smv_instances.specs.Built.{AreInstances}
use Rattle.smv_names.proofs.BeginLemmas.{AreUnseen}
use Rattle.smv_names.proofs.states.States.unseen.Given as goal

abbrev pub invariant-loop-i : goal.invariant-loop-i
invariant-loop-i l = (p : Program) → AreInstances p l.instances → AreUnseen p l.rows.items l.i
