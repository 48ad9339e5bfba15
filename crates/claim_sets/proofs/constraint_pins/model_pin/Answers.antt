use Rattle.std.proofs.Common.{◌-◌, sym, subst}
use Rattle.region_sets.specs.declared.pins.Pin.{Pin}
use Rattle.region_sets.specs.Sets.{IsLive}
use Rattle.claim_sets.proofs.ClaimPins.{side_live}
use Rattle.claim_sets.proofs.ConstraintSides.{claim_pin, is_leaf_at, leaf_pin_at, own_live}
use Rattle.claim_sets.proofs.constraint_pins.model_pin.Goals as goal

pub copy-requires : goal.copy-requires
copy-requires g c =
    subst (λ (x : Pin). IsLive (g.S.StateSets.seen c.args.sets.now) x.slot) (sym c.side.ensures)
    (side_live (g.S.StateSets.seen c.args.sets.now) c.in-Some.claim.now c.args.sign (own_live (g.S.StateSets.seen c.args.sets.now) c.args.lists.now (c.args.k - 1) c.in-Some.claim.now c.requires.live (sym c.in-Some.ensures)))

pub leaf_pin-requires-clause-leaf : goal.leaf_pin-requires-clause-leaf
leaf_pin-requires-clause-leaf g c = is_leaf_at (g.S.StateSets.seen c.args.sets.now).over c.args.lists.now c.args.k c.requires.fitting c.requires.some (sym c.in-None.ensures)

pub returns-in-Some-clause-set : goal.returns-in-Some-clause-set
returns-in-Some-clause-set g c =
    claim_pin (g.S.StateSets.seen c.args.sets.now).over (g.S.StateSets.seen c.args.sets.now) (g.S.StateSets.seen c.copy.new.self) c.args.lists.now c.args.k c.args.sign c.in-Some.claim.now c.side.result.now c.copy.result
    c.requires.fitting (sym c.in-Some.ensures) c.side.ensures c.copy.ensures.set

pub returns-in-None-clause-set : goal.returns-in-None-clause-set
returns-in-None-clause-set g c =
    leaf_pin_at (g.S.StateSets.seen c.args.sets.now).over (g.S.StateSets.seen c.args.sets.now) (g.S.StateSets.seen c.leaf_pin.new.sets) c.args.lists.now c.args.k c.args.sign c.leaf_pin.result
    c.requires.some c.requires.within (sym c.in-None.ensures) c.leaf_pin.ensures.set
