use Rattle.bdd_quantify.proofs.renaming.+exchange.Given as goal

abbrev pub decreases-exchange : goal.decreases-exchange
decreases-exchange g l = l.f
