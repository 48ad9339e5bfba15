use Rattle.proof_lines.proofs.EntryLines.{layers_at}
use Rattle.proof_lines.proofs.entries.layer_entry.Goals as goal

pub returns-clause-tested : goal.returns-clause-tested
returns-clause-tested g c =
    layers_at (g.S.StateSets.seen c.args.sets.now) (g.S.StateSets.seen c.join.new.self) c.args.frame.now.constraints c.args.first.now c.args.last.now c.args.frame.now.nonfair.now c.in_ok-out.out
    c.args.list.now c.args.line.now c.count.new.line c.layers-yes.result c.layers-yes.new.line c.requires.frame.given c.requires.first c.requires.list c.in_ok-out.ensures.call.pins
    c.in_ok-out.ensures.set c.count.ensures c.layers-yes.ensures.tested
