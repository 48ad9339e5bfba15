use Rattle.std.proofs.Common.{[], map, ◌∙◌, arith}
use Rattle.kripke_model.specs.WellFormed.{ctl_of}
use Rattle.claim_sets.proofs.FreeClaimLists.{all_call, all_claimed, all_fitting, all_pins, all_refused, constraint_formula_leaves, formula_count}
use Rattle.claim_sets.proofs.free_claims.constraint_claims.Goals as goal

pub add_constraints-requires-clause-leaves : goal.add_constraints-requires-clause-leaves
add_constraints-requires-clause-leaves g c =
    constraint_formula_leaves c.args.model.now (g.S.StateSets.seen c.args.sets.now).over (map ctl_of c.fair.result.now) c.requires.over c.fair.ensures

pub add_constraints-requires-clause-few : goal.add_constraints-requires-clause-few
add_constraints-requires-clause-few g c =
    omega (arith, formula_count c.args.model.now (g.S.StateSets.seen c.args.sets.now) (g.S.StateSets.seen c.args.sets.now) c.args.part.now c.fair.result.now [] c.fair.ensures, c.rules_law.ensures.flat.limits.constraints)

pub returns-in-Ok-clause-call : goal.returns-in-Ok-clause-call
returns-in-Ok-clause-call g c =
    all_call c.args.model.now (g.S.StateSets.seen c.args.sets.now) (g.S.StateSets.seen c.add_constraints.new.sets) c.args.part.now c.fair.result.now c.add_constraints.new.lists.items c.fair.ensures
    c.add_constraints.new.lists c.in-Ok.ensures.call

pub returns-in-Ok-clause-pins : goal.returns-in-Ok-clause-pins
returns-in-Ok-clause-pins g c =
    all_pins c.args.model.now (g.S.StateSets.seen c.args.sets.now) (g.S.StateSets.seen c.add_constraints.new.sets) c.args.part.now c.fair.result.now c.add_constraints.new.lists.items c.fair.ensures
    c.in-Ok.ensures.pins

pub returns-in-Ok-clause-count : goal.returns-in-Ok-clause-count
returns-in-Ok-clause-count g c =
    c.in-Ok.ensures.count ∙ formula_count c.args.model.now (g.S.StateSets.seen c.args.sets.now) (g.S.StateSets.seen c.add_constraints.new.sets) c.args.part.now c.fair.result.now c.add_constraints.new.lists.items c.fair.ensures

pub returns-in-Ok-clause-fitting : goal.returns-in-Ok-clause-fitting
returns-in-Ok-clause-fitting g c =
    all_fitting c.args.model.now (g.S.StateSets.seen c.args.sets.now) (g.S.StateSets.seen c.add_constraints.new.sets) c.args.part.now c.fair.result.now c.add_constraints.new.lists.items c.fair.ensures
    c.rules_law.ensures.leaves c.requires.over c.in-Ok.ensures.count c.in-Ok.ensures.claims

pub returns-in-Ok-clause-claims : goal.returns-in-Ok-clause-claims
returns-in-Ok-clause-claims g c =
    all_claimed c.args.model.now (g.S.StateSets.seen c.args.sets.now) (g.S.StateSets.seen c.add_constraints.new.sets) c.args.part.now c.fair.result.now c.add_constraints.new.lists.items c.fair.ensures
    c.rules_law.ensures.leaves c.requires.over c.in-Ok.ensures.count c.in-Ok.ensures.claims

pub returns-in-Err-clause-call : goal.returns-in-Err-clause-call
returns-in-Err-clause-call g c =
    all_refused c.args.model.now (g.S.StateSets.seen c.args.sets.now) (g.S.StateSets.seen c.add_constraints.new.sets) c.args.part.now c.fair.result.now c.add_constraints.new.lists.items c.fair.ensures
    (g.S.StateSets.seen c.release_claim_lists.new.sets) c.in-Err.refusal c.in-Err.ensures.call c.release_claim_lists.ensures.pins c.release_claim_lists.ensures.fulls
