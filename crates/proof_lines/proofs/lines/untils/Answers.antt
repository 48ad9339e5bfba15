use Rattle.std.proofs.Common.{arith, ◌<◌, length, sym, ◌∙◌}
use Rattle.std.proofs.lemmas.Bool.{false≢true}
use Rattle.claim_sets.proofs.Joined.{drop_at}
use Rattle.proof_lines.proofs.ReachLines.{until_fails, until_result, all_behind, some_pin}
use Rattle.proof_lines.proofs.LineSums.{behind_within}
use Rattle.proof_lines.proofs.lines.untils.Goals as goal

pub returns-then-not-branch-clause-tested : goal.returns-then-not-branch-clause-tested
returns-then-not-branch-clause-tested g c =
    let less : 0 < length c.args.list.now = some_pin c.args.list.now c.if-is_empty.ensures in
    until_fails (g.S.StateSets.seen c.args.sets.now) (g.S.StateSets.seen c.lies_inside.new.sets) c.lies_inside.ensures.call.pins c.args.f.now c.args.first.now _ c.args.list.now _ c.args.line.now
    (drop_at c.args.list.now 0 (record { slot = 0 }) less) (λ h. false≢true (sym c.if-not-branch.true ∙ c.in_ok-lies_inside.ensures.answer.1 h))

pub returns-clause-tested : goal.returns-clause-tested
returns-clause-tested g c =
    let less : 0 < length c.args.list.now = some_pin c.args.list.now c.if-is_empty.ensures in
    until_result (g.S.StateSets.seen c.args.sets.now) (g.S.StateSets.seen c.lies_inside.new.sets) c.lies_inside.ensures.call.pins c.args.f.now c.args.empty.now c.args.first.now _ c.args.list.now _ c.args.line.now c.count.new.line
    c.steps.result c.steps.new.line (drop_at c.args.list.now 0 (record { slot = 0 }) less ∙ all_behind c.args.list.now (record { slot = 0 })) c.requires.none c.count.ensures (c.in_ok-lies_inside.ensures.answer.0 c.if-not-branch.false) c.steps.ensures.tested

pub returns-clause-products : goal.returns-clause-products
returns-clause-products g c = omega (arith, c.lies_inside.ensures.products, c.steps.ensures.products, behind_within c.args.list.now)
