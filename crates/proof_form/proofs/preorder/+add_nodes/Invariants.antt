use Rattle.kripke_model.specs.Signs.{node_count}
use Rattle.kripke_model.specs.WellFormed.{ctl_of}
use Rattle.proof_form.proofs.preorder.+add_nodes.Given as goal

abbrev pub decreases-add_nodes : goal.decreases-add_nodes
decreases-add_nodes l = node_count (ctl_of l.formula.now)
