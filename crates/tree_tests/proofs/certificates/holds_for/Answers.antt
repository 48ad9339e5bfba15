use Rattle.std.proofs.Common.{List, sym, subst}
use Rattle.path_laws.specs.StateSet.{StateSet}
use Rattle.region_sets.proofs.Calls.{regions-same}
use Rattle.region_sets.proofs.Changes.{stays}
use Rattle.fair_fixpoint.specs.Fairness.{AreConstraints}
use Rattle.tree_tests.proofs.certificates.holds_for.Goals as goal

pub certificate_holds-holds-requires-clause-made : goal.certificate_holds-holds-requires-clause-made
certificate_holds-holds-requires-clause-made g c =
    subst (λ (sets : List StateSet). AreConstraints c.args.model.now sets)
    (sym (regions-same (g.S.StateSets.seen c.args.sets.now) (g.S.StateSets.seen c.certificate_of.new.sets) c.args.constraints.now.visits.items
    (λ k e. stays c.in_ok-certificate.ensures.made k (c.requires.live k e))))
    c.requires.made
