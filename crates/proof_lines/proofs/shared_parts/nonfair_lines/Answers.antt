use Rattle.proof_lines.proofs.SharedLines.{nonfair_tested}
use Rattle.proof_lines.proofs.shared_parts.nonfair_lines.Goals as goal

pub returns-clause-tested : goal.returns-clause-tested
returns-clause-tested g c =
    nonfair_tested (g.S.StateSets.seen c.args.sets.now) c.args.frame.now c.args.nonfair.now c.args.line.now c.count.new.line c.layers.result c.layers.new.line c.requires.frame c.count.ensures c.layers.ensures.tested
