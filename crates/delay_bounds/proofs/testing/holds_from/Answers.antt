use Rattle.std.proofs.lemmas.Result.{IfOk-weaker}
use Rattle.kripke_model.specs.Reading.{term_of}
use Rattle.region_sets.specs.Sets.{In}
use Rattle.region_sets.proofs.Changes.{stays}
use Rattle.state_reach.specs.States.{HoldsAt}
use Rattle.delay_bounds.proofs.HoldCalls.{leaf_alike, pin_alike, shown_answer}
use Rattle.delay_bounds.proofs.testing.holds_from.Goals as goal

pub returns-clause-answer : goal.returns-clause-answer
returns-clause-answer g c =
    let a = g.S.StateSets.seen c.args.sets.now in
    let b = g.S.StateSets.seen c.leaf.new.self in
    let m = c.args.model.now in
    let from = c.args.from.now.slot in
    let goals = c.in_ok-goals.goals.slot in
    IfOk-weaker c.holds_between-yes.result _ _
    (λ truth answer. shown_answer m (In b from) (In a from) (In b goals) (HoldsAt m (term_of c.args.to.now))
    (pin_alike m a b from (stays c.in_ok-goals.ensures.call.pins from c.requires.from)) (leaf_alike m a b goals (term_of c.args.to.now) c.requires.over c.in_ok-goals.ensures.set)
    a b c.args.proof.now truth (λ k e. stays c.in_ok-goals.ensures.call.pins k (c.requires.live k e)) answer)
    c.holds_between-yes.ensures.answer
