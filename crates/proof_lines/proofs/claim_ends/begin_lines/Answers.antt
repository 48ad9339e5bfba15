use Rattle.std.proofs.Common.{[], ◌∷◌, sym, ◌∙◌}
use Rattle.std.proofs.lemmas.Bool.{false≢true}
use Rattle.region_sets.specs.Sets.{region}
use Rattle.fair_rules.specs.Checks.{Check}
use Rattle.proof_lines.proofs.EndLines.{begin_holds, test_fails}
use Rattle.proof_lines.proofs.claim_ends.begin_lines.Goals as goal

pub returns-then-not-begins : goal.returns-then-not-begins
returns-then-not-begins g c =
    let start = g.S.StateSets.seen c.args.sets.now in
    test_fails c.args.model.now (Check.Begins c.args.s.now (region start c.args.set.now)) ([] ∷ []) c.args.line.now (λ h. false≢true (sym c.if-not-begins.true ∙ c.begins.ensures.1 h))

pub returns : goal.returns
returns g c =
    let start = g.S.StateSets.seen c.args.sets.now in
    begin_holds c.args.model.now c.args.s.now (region start c.args.set.now) c.args.line.now c.count.new.line c.count-2.new.line (c.begins.ensures.0 c.if-not-begins.false) c.count.ensures c.count-2.ensures
