use Rattle.std.proofs.Common.{[], sym, ◌∙◌}
use Rattle.std.proofs.lemmas.Bool.{false≢true}
use Rattle.region_sets.specs.Sets.{region}
use Rattle.fair_rules.specs.Checks.{Check}
use Rattle.proof_lines.proofs.EndLines.{start_holds, test_fails}
use Rattle.proof_lines.proofs.claim_ends.start_line.Goals as goal

pub returns-then-not-branch-clause-tested : goal.returns-then-not-branch-clause-tested
returns-then-not-branch-clause-tested g c =
    let start = g.S.StateSets.seen c.args.sets.now in
    test_fails start.over (Check.Starts (region start c.args.set.now)) [] c.args.line.now (λ h. false≢true (sym c.if-not-branch.true ∙ c.in_ok-starts.ensures.answer.1 h))

pub returns-clause-tested : goal.returns-clause-tested
returns-clause-tested g c =
    let start = g.S.StateSets.seen c.args.sets.now in
    start_holds start.over (region start c.args.set.now) c.args.line.now c.count.new.line (c.in_ok-starts.ensures.answer.0 c.if-not-branch.false) c.count.ensures
