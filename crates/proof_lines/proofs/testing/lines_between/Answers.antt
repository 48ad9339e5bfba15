use Rattle.std.proofs.Common.{sym, ◌∙◌, ap}
use Rattle.proof_lines.proofs.WholeTests.{without_part}
use Rattle.proof_lines.proofs.testing.lines_between.Goals as goal

pub returns-in-None-clause-tested : goal.returns-in-None-clause-tested
returns-in-None-clause-tested g c =
    without_part c.args.case.now (g.S.StateSets.seen c.args.sets.now) c.requires.case (sym (ap (λ p. p.free) c.proof.view_is) ∙ c.in-None.is) c.args.line.now c.own_block.result c.own_block.new.line c.own_block.ensures.tested
