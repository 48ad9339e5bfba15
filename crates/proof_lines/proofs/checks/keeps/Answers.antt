use Rattle.claim_sets.proofs.Regions.{keeps_answer}
use Rattle.proof_lines.proofs.checks.keeps.Goals as goal

pub returns-clause-answer : goal.returns-clause-answer
returns-clause-answer g c =
    let out = c.in_ok-leaving.ensures in
    let met = c.in_ok-bad.ensures in
    keeps_answer _ _ _ _ (g.met.S.StateSets.inside c.args.sets.now) _ _ _ _ c.requires.a out.call.pins out.set met.call.pins met.set c.release.ensures.pins
    c.is_empty-yes.result c.is_empty-yes.ensures.yes c.is_empty-yes.ensures.no
