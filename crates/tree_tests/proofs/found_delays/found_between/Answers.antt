use Rattle.std.proofs.Common.{[], ◌∙◌, arith}
use Rattle.path_laws.specs.StateCount.{state_count}
use Rattle.region_sets.proofs.Changes.{adds_after, stays_live, takes_back}
use Rattle.tree_tests.proofs.found_delays.found_between.Goals as goal

pub delay_holds-holds-requires-clause-over : goal.delay_holds-holds-requires-clause-over
delay_holds-holds-requires-clause-over g c = (c.in_ok-proof.ensures.call (state_count c.args.model.now) (omega arith)).pins.over ∙ c.requires.over

pub delay_holds-holds-requires-clause-live : goal.delay_holds-holds-requires-clause-live
delay_holds-holds-requires-clause-live g c = (c.in_ok-proof.ensures.call (state_count c.args.model.now) (omega arith)).pins.there

pub release-requires-clause-live : goal.release-requires-clause-live
release-requires-clause-live g c = λ k e. stays_live c.delay_holds-holds.ensures.call.pins k ((c.in_ok-proof.ensures.call (state_count c.args.model.now) (omega arith)).pins.there k e)

pub release-requires-clause-once : goal.release-requires-clause-once
release-requires-clause-once g c = (c.in_ok-proof.ensures.call (state_count c.args.model.now) (omega arith)).pins.once

pub returns-in_err-holds : goal.returns-in_err-holds
returns-in_err-holds g c =
    takes_back {ys = []} (adds_after (c.in_ok-proof.ensures.call (state_count c.args.model.now) (omega arith)).pins c.delay_holds-holds.ensures.call.pins) c.release.ensures.pins

pub returns : goal.returns
returns g c =
    takes_back {ys = []} (adds_after (c.in_ok-proof.ensures.call (state_count c.args.model.now) (omega arith)).pins c.delay_holds-holds.ensures.call.pins) c.release.ensures.pins
