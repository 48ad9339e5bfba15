use Rattle.claim_sets.proofs.Regions.{step_out_set}
use Rattle.proof_lines.proofs.checks.step_out.Goals as goal

pub returns-clause-set : goal.returns-clause-set
returns-clause-set g c =
    let full = c.in_ok-full.ensures in
    let minus = c.in_ok-outside.ensures in
    step_out_set _ _ _ _ _ _ _ _ _ _ c.requires full.call.pins full.set minus.call.pins minus.set c.release.ensures.pins
    c.pre-before.ensures.call.pins c.pre-before.ensures.set c.release-2.ensures.pins
