use Rattle.std.proofs.Common.{arith, true}
use Rattle.claim_sets.specs.ConstraintClaims.{constraint_list}
use Rattle.proof_lines.proofs.SharedLines.{fair_tested, reach_live}
use Rattle.proof_lines.proofs.LineSums.{fair_counted}
use Rattle.proof_lines.proofs.shared_parts.fair_lines.Goals as goal

pub reaches-requires-clause-lists : goal.reaches-requires-clause-lists
reaches-requires-clause-lists g c =
    reach_live (g.S.StateSets.seen c.args.sets.now) c.fair.inside.inside c.fair.inside.reach.items c.deref.result.now c.args.fair.now c.deref.ensures.value c.fair.view_is c.requires.live

pub returns-clause-tested : goal.returns-clause-tested
returns-clause-tested g c =
    let start = g.S.StateSets.seen c.args.sets.now in
    fair_tested start (constraint_list start c.args.frame.now.constraints true) c.fair.inside.inside c.fair.inside.reach.items c.deref.result.now c.args.fair.now c.args.line.now c.count.new.line c.reaches.result c.reaches.new.line
    c.deref.ensures.value c.fair.view_is c.count.ensures c.reaches.ensures.tested

pub returns-clause-products : goal.returns-clause-products
returns-clause-products g c = omega (arith, c.reaches.ensures.products, fair_counted c.fair.inside.inside c.fair.inside.reach.items c.deref.result.now c.args.fair.now c.deref.ensures.value c.fair.view_is)
