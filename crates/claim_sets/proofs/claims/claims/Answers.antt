use Rattle.std.proofs.Common.{[], ◌∙◌, ap}
use Rattle.kripke_model.specs.WellFormed.{ctl_of}
use Rattle.proof_form.specs.Preorder.{node_views}
use Rattle.claim_sets.proofs.ClaimsMade.{made_call, made_claims, made_count, made_pins, nodes_placed, refused_call}
use Rattle.claim_sets.proofs.claims.claims.Goals as goal

pub add_claims-requires-clause-placed : goal.add_claims-requires-clause-placed
add_claims-requires-clause-placed g c =
    nodes_placed (ctl_of c.args.formula.now) (g.S.StateSets.seen c.args.sets.now) (g.S.StateSets.seen c.args.sets.now) c.deref.result.now [] (ap node_views c.deref.ensures.value ∙ c.in_ok-nodes.ensures) c.requires.leaves

pub returns-in-Ok-clause-call : goal.returns-in-Ok-clause-call
returns-in-Ok-clause-call g c =
    made_call (ctl_of c.args.formula.now) (g.S.StateSets.seen c.args.sets.now) (g.S.StateSets.seen c.add_claims.new.sets) c.deref.result.now c.add_claims.new.claims.items (ap node_views c.deref.ensures.value ∙ c.in_ok-nodes.ensures)
    c.add_claims.new.claims c.in-Ok.ensures.call

pub returns-in-Ok-clause-count : goal.returns-in-Ok-clause-count
returns-in-Ok-clause-count g c =
    made_count (ctl_of c.args.formula.now) (g.S.StateSets.seen c.args.sets.now) (g.S.StateSets.seen c.add_claims.new.sets) c.deref.result.now c.add_claims.new.claims.items (ap node_views c.deref.ensures.value ∙ c.in_ok-nodes.ensures) c.in-Ok.ensures.count

pub returns-in-Ok-clause-pins : goal.returns-in-Ok-clause-pins
returns-in-Ok-clause-pins g c =
    made_pins (ctl_of c.args.formula.now) (g.S.StateSets.seen c.args.sets.now) (g.S.StateSets.seen c.add_claims.new.sets) c.deref.result.now c.add_claims.new.claims.items (ap node_views c.deref.ensures.value ∙ c.in_ok-nodes.ensures) c.in-Ok.ensures.count

pub returns-in-Ok-clause-claims : goal.returns-in-Ok-clause-claims
returns-in-Ok-clause-claims g c =
    made_claims (ctl_of c.args.formula.now) (g.S.StateSets.seen c.args.sets.now) (g.S.StateSets.seen c.add_claims.new.sets) c.deref.result.now c.add_claims.new.claims.items (ap node_views c.deref.ensures.value ∙ c.in_ok-nodes.ensures)
    c.args.ground.now c.in-Ok.ensures.count c.in-Ok.ensures.claims

pub returns-clause-call : goal.returns-clause-call
returns-clause-call g c =
    refused_call (ctl_of c.args.formula.now) (g.S.StateSets.seen c.args.sets.now) (g.S.StateSets.seen c.add_claims.new.sets) c.deref.result.now c.add_claims.new.claims.items (ap node_views c.deref.ensures.value ∙ c.in_ok-nodes.ensures)
    (g.S.StateSets.seen c.release_claims.new.sets) c.in-Err.refusal c.in-Err.ensures.call c.release_claims.ensures.pins c.release_claims.ensures.fulls
