use Rattle.std.proofs.lemmas.Result.{IfOk-weaker}
use Rattle.delay_bounds.proofs.TestCalls.{apart_alike, spread_answer}
use Rattle.delay_bounds.proofs.testing.is_spread_apart.Goals as goal

pub returns-clause-answer : goal.returns-clause-answer
returns-clause-answer g c =
    let a = g.S.StateSets.seen c.args.sets.now in
    let b = g.S.StateSets.seen c.others.new.sets in
    let k = c.in_ok-apart.apart.slot in
    let p = c.in_ok-apart.ensures.call.pins in
    let alike = apart_alike a b k p c.args.to.now.slot c.in_ok-apart.ensures.set in
    IfOk-weaker c.is_spread-yes.result _ _
    (λ truth answer. spread_answer a b k p _ _ _ _ c.args.list.now truth alike alike c.requires.list answer)
    c.is_spread-yes.ensures.answer
