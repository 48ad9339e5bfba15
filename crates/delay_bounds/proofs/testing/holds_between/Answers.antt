use Rattle.std.proofs.Common.{sym, subst}
use Rattle.std.specs.Prelude.{IsTrue, ◌↔◌}
use Rattle.std.proofs.lemmas.Result.{IfOk-weaker}
use Rattle.region_sets.specs.declared.pins.Pin.{Pin}
use Rattle.region_sets.specs.Sets.{In}
use Rattle.region_sets.specs.Ranks.{slots, AreLive}
use Rattle.region_sets.proofs.Changes.{stays_live}
use Rattle.delay_bounds.specs.Form.{Longest, Shortest, longest_sets, shortest_sets}
use Rattle.delay_bounds.specs.Pinned.{over_longest, over_shortest}
use Rattle.delay_bounds.specs.Shows.{ShowsLongest, ShowsShortest}
use Rattle.delay_bounds.proofs.HoldCalls.{of_longest, of_shortest}
use Rattle.delay_bounds.proofs.TestCalls.{longest_behind}
use Rattle.delay_bounds.proofs.testing.holds_between.Goals as goal

pub shortest_holds-requires-clause-live : goal.shortest_holds-requires-clause-live
shortest_holds-requires-clause-live g c =
    subst (λ (x : Shortest Pin). AreLive (g.S.StateSets.seen c.args.sets.now) (slots (shortest_sets x))) (sym c.shortest_of.ensures)
    (λ k e. c.requires.live k (of_shortest c.args.proof.now k e))

pub longest_holds-requires-clause-live : goal.longest_holds-requires-clause-live
longest_holds-requires-clause-live g c =
    subst (λ (x : Longest Pin). AreLive (g.S.StateSets.seen c.shortest_holds.new.sets) (slots (longest_sets x))) (sym c.longest_of.ensures)
    (λ k e. stays_live c.in_ok-shortest_holds.ensures.call.pins k (c.requires.live k (of_longest c.args.proof.now k e)))

pub returns-clause-answer : goal.returns-clause-answer
returns-clause-answer g c =
    let m = c.args.model.now in
    let s0 = g.S.StateSets.seen c.args.sets.now in
    let s1 = g.S.StateSets.seen c.shortest_holds.new.sets in
    let from = c.args.from.now.slot in
    let to = c.args.to.now.slot in
    IfOk-weaker c.longest_holds.result _ _
    (λ b answer. longest_behind m s0 s1 from to c.args.proof.now.longest b
    c.in_ok-shortest_holds.ensures.call.pins
    (subst (λ (x : Shortest Pin). ShowsShortest m (In s0 from) (In s0 to) (over_shortest s0 x)) c.shortest_of.ensures (c.in_ok-shortest_holds.ensures.answer.0 c.if-not-branch.false))
    (subst (λ (x : Longest Pin). IsTrue b ↔ ShowsLongest m (In s1 from) (In s1 to) (over_longest s1 x)) c.longest_of.ensures answer))
    c.longest_holds.ensures.answer
