use Rattle.std.proofs.Common.{true, subst}
use Rattle.proof_lines.specs.Tested.{AreTested}
use Rattle.proof_lines.proofs.BlockParts.{first_part, shared_tested}
use Rattle.proof_lines.proofs.Counting.{left_fails}
use Rattle.proof_lines.proofs.shared_parts.shared_lines.Goals as goal

pub returns-then-not-branch-clause-tested : goal.returns-then-not-branch-clause-tested
returns-then-not-branch-clause-tested g c =
    let start = g.S.StateSets.seen c.args.sets.now in
    left_fails start.over (first_part start c.args.frame.now c.args.nonfair.now) _ c.args.line.now c.nonfair_lines.new.line
    (subst (λ b. AreTested start.over (first_part start c.args.frame.now c.args.nonfair.now) c.args.line.now b c.nonfair_lines.new.line) c.if-not-branch.true c.in_ok-nonfair_lines.ensures.tested)

pub returns-clause-tested : goal.returns-clause-tested
returns-clause-tested g c =
    let start = g.S.StateSets.seen c.args.sets.now in
    shared_tested start (g.S.StateSets.seen c.nonfair_lines.new.sets) c.args.frame.now (first_part start c.args.frame.now c.args.nonfair.now) c.args.fair.now.inside c.args.fair.now.reach c.args.line.now
    c.nonfair_lines.new.line c.fair_lines.result c.fair_lines.new.line c.nonfair_lines.ensures.call.pins c.requires.frame
    (subst (λ b. AreTested start.over (first_part start c.args.frame.now c.args.nonfair.now) c.args.line.now b c.nonfair_lines.new.line) c.if-not-branch.false c.in_ok-nonfair_lines.ensures.tested)
    c.fair_lines.ensures.tested
