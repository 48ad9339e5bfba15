use Rattle.std.proofs.Common.{not, ◌∙◌, ap}
use Rattle.region_sets.specs.Sets.{region}
use Rattle.fair_rules.specs.Claims.{entry_set}
use Rattle.proof_form.specs.declared.preorder.Unary.TheVariants as unary
use Rattle.claim_sets.specs.Claimed.{seen_claim}
use Rattle.claim_sets.proofs.FoundEntries.{set_copied}
use Rattle.claim_sets.proofs.ClaimPins.{by_kind, if_ok, side_set}
use Rattle.claim_sets.proofs.claims.unary_set.Goals as goal

pub returns-in-Not-clause-set : goal.returns-in-Not-clause-set
returns-in-Not-clause-set g c =
    if_ok c.copy.result (λ pin h p of. by_kind p c.args.number c.args.kind unary.Not c.args.sign (seen_claim (g.S.StateSets.seen c.args.sets.now) c.args.f.now) (region (g.S.StateSets.seen c.copy.new.self) pin) c.in-Not.is
    (h ∙ ap (region (g.S.StateSets.seen c.args.sets.now)) c.side.ensures ∙ side_set (g.S.StateSets.seen c.args.sets.now) c.args.f.now (not c.args.sign)))
    (set_copied (g.S.StateSets.seen c.args.sets.now) (g.S.StateSets.seen c.copy.new.self) c.side.result.now.slot c.copy.result c.copy.ensures.set)

pub returns-in-Quantified-clause-set : goal.returns-in-Quantified-clause-set
returns-in-Quantified-clause-set g c =
    if_ok c.entry_pin.result (λ pin h p of.
    by_kind p c.args.number c.args.kind (unary.Quantified c.in-Quantified.field-0) c.args.sign (seen_claim (g.S.StateSets.seen c.args.sets.now) c.args.f.now) (region (g.S.StateSets.seen c.entry_pin.new.sets) pin) c.in-Quantified.is
    (h p of ∙ ap (entry_set p.nonfair (p.entries c.args.number c.args.sign)) (ap (region (g.S.StateSets.seen c.args.sets.now)) c.side-in-Quantified.ensures ∙ side_set (g.S.StateSets.seen c.args.sets.now) c.args.f.now c.args.sign)))
    c.entry_pin.ensures.set
