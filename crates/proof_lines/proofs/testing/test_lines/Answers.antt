use Rattle.kripke_model.specs.WellFormed.{ctl_of}
use Rattle.region_sets.proofs.Changes.{adds_after}
use Rattle.proof_lines.proofs.WholeTests.{tested_before}
use Rattle.proof_lines.proofs.testing.test_lines.Goals as goal

pub returns-in-Ok-clause-tested : goal.returns-in-Ok-clause-tested
returns-in-Ok-clause-tested g c =
    tested_before c.args.model.now (ctl_of c.args.formula.now) (g.S.StateSets.seen c.args.sets.now) (g.S.StateSets.seen c.empty.new.self) c.args.proof.now (adds_after c.in_ok-full.ensures.call.pins c.in-Ok.ensures.call.pins) c.requires.live
    c.args.line.now c.lines_between-yes.result c.lines_between-yes.new.line c.lines_between-yes.ensures.tested
