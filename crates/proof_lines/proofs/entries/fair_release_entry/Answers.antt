use Rattle.std.proofs.Common.{subst}
use Rattle.proof_lines.specs.Tested.{AreTested}
use Rattle.proof_lines.proofs.Counting.{left_fails}
use Rattle.proof_lines.specs.Told.{fair_lines}
use Rattle.proof_lines.proofs.EntryLines.{release_after}
use Rattle.proof_lines.proofs.entries.fair_release_entry.Goals as goal

pub returns-then-not-branch-clause-tested : goal.returns-then-not-branch-clause-tested
returns-then-not-branch-clause-tested g c =
    let start = g.S.StateSets.seen c.args.sets.now in
    left_fails start.over (fair_lines start c.args.frame.now.constraints c.args.last.now c.args.fair.now) _ c.args.line.now c.fair_entry.new.line
    (subst (λ b. AreTested start.over (fair_lines start c.args.frame.now.constraints c.args.last.now c.args.fair.now) c.args.line.now b c.fair_entry.new.line) c.if-not-branch.true c.in_ok-fair_entry.ensures.tested)

pub returns-clause-tested : goal.returns-clause-tested
returns-clause-tested g c =
    let start = g.S.StateSets.seen c.args.sets.now in
    release_after start (g.S.StateSets.seen c.fair_entry.new.sets) c.args.first.now c.args.last.now c.args.frame.now.fair.now c.args.list.now
    (fair_lines start c.args.frame.now.constraints c.args.last.now c.args.fair.now) c.args.line.now c.fair_entry.new.line c.release_entry.result c.release_entry.new.line c.fair_entry.ensures.call.pins
    (subst (λ b. AreTested start.over (fair_lines start c.args.frame.now.constraints c.args.last.now c.args.fair.now) c.args.line.now b c.fair_entry.new.line) c.if-not-branch.false c.in_ok-fair_entry.ensures.tested)
    c.release_entry.ensures.tested
