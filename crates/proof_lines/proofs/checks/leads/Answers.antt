use Rattle.claim_sets.proofs.Regions.{leads_result}
use Rattle.proof_lines.proofs.checks.leads.Goals as goal

pub returns-clause-answer : goal.returns-clause-answer
returns-clause-answer g c =
    let before = c.in_ok-before.ensures in
    leads_result _ _ (g.met.S.StateSets.inside c.args.sets.now) _ _ _ c.requires.a before.call.pins before.set c.subset-yes.result c.subset-yes.ensures.answer
