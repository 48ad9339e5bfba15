use Rattle.kripke_model.specs.Signs.{node_count}
use Rattle.kripke_model.specs.WellFormed.{ctl_of}
use Rattle.rank_extract.proofs.entries.+add_from.Given as goal

abbrev pub decreases-add_from : goal.decreases-add_from
decreases-add_from g l = node_count (ctl_of l.formula.now)
