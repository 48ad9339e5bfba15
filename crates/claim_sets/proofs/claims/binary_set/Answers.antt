use Rattle.std.proofs.Common.{not, ◌∙◌, ap}
use Rattle.region_sets.specs.Sets.{region}
use Rattle.fair_rules.specs.Claims.{entry_set}
use Rattle.claim_sets.specs.Claimed.{side_of}
use Rattle.claim_sets.proofs.ClaimPins.{and_is, connected_at, if_ok, implies_is, or_is, until_is}
use Rattle.claim_sets.proofs.claims.binary_set.Goals as goal

pub returns-in-And-clause-set : goal.returns-in-And-clause-set
returns-in-And-clause-set g c =
    if_ok c.connect.result (λ pin h p of. and_is (g.S.StateSets.seen c.args.sets.now) (g.S.StateSets.seen c.connect.new.sets) p c.args.number c.args.sign c.args.f.now c.args.g.now pin c.args.kind c.in-And.is
    (h ∙ connected_at (g.S.StateSets.seen c.args.sets.now) c.args.sign _ _ (side_of c.args.f.now c.args.sign) (side_of c.args.g.now c.args.sign) c.side.ensures c.side-in-And.ensures))
    c.connect.ensures.set

pub returns-in-Or-clause-set : goal.returns-in-Or-clause-set
returns-in-Or-clause-set g c =
    if_ok c.connect-in-Or.result (λ pin h p of. or_is (g.S.StateSets.seen c.args.sets.now) (g.S.StateSets.seen c.connect-in-Or.new.sets) p c.args.number c.args.sign c.args.f.now c.args.g.now pin c.args.kind c.in-Or.is
    (h ∙ connected_at (g.S.StateSets.seen c.args.sets.now) (not c.args.sign) _ _ (side_of c.args.f.now c.args.sign) (side_of c.args.g.now c.args.sign) c.side-in-Or.ensures c.side-in-Or-2.ensures))
    c.connect-in-Or.ensures.set

pub returns-in-Implies-clause-set : goal.returns-in-Implies-clause-set
returns-in-Implies-clause-set g c =
    if_ok c.connect-in-Implies.result (λ pin h p of. implies_is (g.S.StateSets.seen c.args.sets.now) (g.S.StateSets.seen c.connect-in-Implies.new.sets) p c.args.number c.args.sign c.args.f.now c.args.g.now pin c.args.kind c.in-Implies.is
    (h ∙ connected_at (g.S.StateSets.seen c.args.sets.now) (not c.args.sign) _ _ (side_of c.args.f.now (not c.args.sign)) (side_of c.args.g.now c.args.sign) c.side-in-Implies.ensures c.side-in-Implies-2.ensures))
    c.connect-in-Implies.ensures.set

pub returns-in-Until-clause-set : goal.returns-in-Until-clause-set
returns-in-Until-clause-set g c =
    if_ok c.entry_pin.result (λ pin h p of. until_is (g.S.StateSets.seen c.args.sets.now) (g.S.StateSets.seen c.entry_pin.new.sets) p c.args.number c.args.sign c.args.f.now c.args.g.now pin c.in-Until.field-0 c.args.kind c.in-Until.is
    (h p of ∙ ap (entry_set p.nonfair (p.entries c.args.number c.args.sign)) (ap (region (g.S.StateSets.seen c.args.sets.now)) c.side-in-Until.ensures)))
    c.entry_pin.ensures.set
