use Rattle.smv_instances.proofs.body.+is_on_way.Given as goal

abbrev pub decreases-is_on_way : goal.decreases-is_on_way
decreases-is_on_way l = l.number
