use Rattle.std.proofs.Common.{◌≡◌, length}
use Rattle.proof_form.specs.Preorder.{node_views}
use Rattle.claim_sets.proofs.Claiming.{IsClaiming}
use Rattle.claim_sets.proofs.claims.add_claims.Given as goal

abbrev pub invariant-loop-k : goal.invariant-loop-k
invariant-loop-k g l = record {
  claiming : IsClaiming (length l.nodes) l.ground (node_views l.nodes) (g.S.StateSets.seen l.fn.sets) (g.S.StateSets.seen l.sets) l.k l.claims.items;
  products : g.S.StateSets.products l.sets ≡ g.S.StateSets.products l.fn.sets;
}
