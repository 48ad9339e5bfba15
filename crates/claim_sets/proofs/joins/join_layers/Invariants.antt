use Rattle.proof_form.specs.Form.{layer_sets}
use Rattle.std.proofs.Common.{◌≡◌}
use Rattle.claim_sets.proofs.Joined.{IsJoining}
use Rattle.claim_sets.proofs.joins.join_layers.Given as goal

abbrev pub invariant-loop-k : goal.invariant-loop-k
invariant-loop-k g l = record {
  joining : IsJoining (g.S.StateSets.seen l.fn.sets) (g.S.StateSets.seen l.sets) (layer_sets l.layers) l.k l.all;
  products : g.S.StateSets.products l.sets ≡ g.S.StateSets.products l.fn.sets;
}
