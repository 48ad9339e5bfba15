use Rattle.std.proofs.Common.{◌+◌, ◌<◌, length, sym, ◌∙◌, arith}
use Rattle.std.proofs.lemmas.Bool.{false≢true}
use Rattle.trace_check.specs.Judged.{MeetsOnCycle}
use Rattle.trace_check.proofs.Members.{one_more}
use Rattle.trace_check.proofs.Visited as visited
use Rattle.trace_check.proofs.visits.first_unmet.Goals as goal

pub returns-then-not-is_met : goal.returns-then-not-is_met
returns-then-not-is_met g c =
    let visits = c.args.constraints.now.visits.items in
    let less : c.loop-place.place < length visits = omega (arith, c.loop-place-test.true, c.len-place-end.ensures, c.args.constraints.now.visits.ok) in
    visited.first_unmet c.args.model.now (g.S.StateSets.seen c.args.sets.now) visits c.requires.made c.args.lasso.now c.loop-place.place less c.loop-place.invariant
    (λ met. false≢true (sym c.if-not-is_met.true ∙ c.is_met.ensures.1 met))

pub loop-place-preserved : goal.loop-place-preserved
loop-place-preserved g c = one_more (λ k. MeetsOnCycle c.args.model.now c.args.lasso.now (k + 1)) c.loop-place.place c.loop-place.invariant (c.is_met.ensures.0 c.if-not-is_met.false)

pub returns : goal.returns
returns g c =
    let visits = c.args.constraints.now.visits.items in
    visited.all_met c.args.model.now (g.S.StateSets.seen c.args.sets.now) visits c.requires.made c.args.lasso.now
    (λ k less. c.loop-place.invariant k (omega (arith, less, c.loop-place-test.false, c.len-place-end.ensures, c.args.constraints.now.visits.ok)))
