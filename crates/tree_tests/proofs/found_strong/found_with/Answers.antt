use Rattle.std.proofs.Common.{[], sym, subst, arith}
use Rattle.kripke_model.specs.System.{System}
use Rattle.path_laws.specs.StateCount.{state_count}
use Rattle.region_sets.specs.Ranks.{regions}
use Rattle.region_sets.proofs.Changes.{adds_after, takes_back}
use Rattle.fair_fixpoint.specs.Fairness.{AreConstraints}
use Rattle.strong_fair.proofs.RowCalls.{still_made}
use Rattle.tree_tests.proofs.found_strong.found_with.Goals as goal

pub certificate_holds-holds-requires-clause-made : goal.certificate_holds-holds-requires-clause-made
certificate_holds-holds-requires-clause-made g c =
    let s0 = g.S.StateSets.seen c.args.sets.now in
    let s1 = g.S.StateSets.seen c.strong.new.sets in
    let cs = c.args.constraints.now.visits.items in
    let pins = (c.in_ok-answer.ensures.call (state_count c.args.model.now) (omega arith)).pins in
    subst (λ (m : System). AreConstraints m (regions s1 cs)) c.requires.over
    (subst (λ (m : System). AreConstraints m (regions s1 cs)) pins.over
    (still_made s0 s1 cs _ pins c.requires.live (subst (λ (m : System). AreConstraints m (regions s0 cs)) (sym c.requires.over) c.requires.made)))

pub returns-in_err-holds-in-Closed : goal.returns-in_err-holds-in-Closed
returns-in_err-holds-in-Closed g c =
    let call = rw c.in-Closed.is at
    (c.in_ok-answer.ensures.call (state_count c.args.model.now) (omega arith)) in
    takes_back {ys = []} (adds_after call.pins c.certificate_holds-holds.ensures.call.pins) c.release.ensures.pins

pub returns-in-Loop : goal.returns-in-Loop
returns-in-Loop g c =
    let call = rw c.in-Loop.is at
    (c.in_ok-answer.ensures.call (state_count c.args.model.now) (omega arith)) in
    call.pins

pub returns-in_ok-holds-in-Closed : goal.returns-in_ok-holds-in-Closed
returns-in_ok-holds-in-Closed g c =
    let call = rw c.in-Closed.is at
    (c.in_ok-answer.ensures.call (state_count c.args.model.now) (omega arith)) in
    takes_back {ys = []} (adds_after call.pins c.certificate_holds-holds.ensures.call.pins) c.release.ensures.pins
