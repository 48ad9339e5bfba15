use Rattle.std.proofs.Common.{◌≡◌, true, List, sym, subst}
use Rattle.region_sets.specs.Sets.{is_one_of}
use Rattle.fair_fixpoint.specs.declared.runs.Ranks.{Ranks}
use Rattle.fair_fixpoint.specs.declared.runs.RunLayer.{RunLayer}
use Rattle.fair_fixpoint.specs.Runs.{grown_slots, layers_slots}
use Rattle.rank_extract.proofs.RuleLive.{layers_live}
use Rattle.rank_extract.proofs.rules.every_rule.Goals as goal

pub copy_layers-requires : goal.copy_layers-requires
copy_layers-requires g c = λ k h.
    layers_live (g.S.StateSets.seen c.args.sets.now) c.in-Layered.layered (λ j e. c.requires.ranks j (subst (λ (r : Ranks). is_one_of j (grown_slots r) ≡ true) (sym c.in-Layered.is) e)) k
    (subst (λ (ls : List RunLayer). is_one_of k (layers_slots ls) ≡ true) c.deref.ensures.value h)
