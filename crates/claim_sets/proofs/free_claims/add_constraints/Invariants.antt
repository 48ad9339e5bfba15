use Rattle.std.proofs.Common.{◌≡◌, map}
use Rattle.kripke_model.specs.WellFormed.{ctl_of}
use Rattle.claim_sets.proofs.FreeClaimLists.{IsListed}
use Rattle.claim_sets.proofs.free_claims.add_constraints.Given as goal

abbrev pub invariant-loop-k : goal.invariant-loop-k
invariant-loop-k g l = record {
  listed : IsListed l.part (map ctl_of l.formulas) (g.S.StateSets.seen l.fn.sets) (g.S.StateSets.seen l.sets) l.k l.lists.items;
  products : g.S.StateSets.products l.sets ≡ g.S.StateSets.products l.fn.sets;
}
