use Rattle.std.proofs.lemmas.Result.{IfOk-weaker}
use Rattle.delay_bounds.proofs.TestCalls.{full_alike, live_alike, spread_answer}
use Rattle.delay_bounds.proofs.testing.is_spread_back.Goals as goal

pub returns-clause-answer : goal.returns-clause-answer
returns-clause-answer g c =
    let a = g.S.StateSets.seen c.args.sets.now in
    let b = g.S.StateSets.seen c.full.new.self in
    let k = c.in_ok-full.full.slot in
    let p = c.in_ok-full.ensures.call.pins in
    IfOk-weaker c.is_spread-yes.result _ _
    (λ truth answer. spread_answer a b k p _ _ _ _ c.args.list.now truth (live_alike a b k p c.args.to.now.slot c.requires.to) (full_alike a b k p c.in_ok-full.ensures.set) c.requires.list answer)
    c.is_spread-yes.ensures.answer
