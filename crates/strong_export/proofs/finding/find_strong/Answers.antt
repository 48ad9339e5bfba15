use Rattle.std.proofs.Common.{◌≤◌, arith}
use Rattle.std.proofs.lemmas.Result.{err_from_is_err_and}
use Rattle.fair_fixpoint.proofs.Lists.{to_err}
use Rattle.path_laws.specs.StateCount.{state_count}
use Rattle.region_sets.proofs.Calls.{holds_more}
use Rattle.region_sets.proofs.Changes.{stays_live}
use Rattle.strong_export.specs.Finding.{strong_pins}
use Rattle.strong_export.proofs.Searched.{after_search}
use Rattle.strong_export.proofs.finding.find_strong.Goals as goal

pub returns-in_err-constraints-clause-call : goal.returns-in_err-constraints-clause-call
returns-in_err-constraints-clause-call c =
    let m = c.args.model.now in
    let p = err_from_is_err_and c.from_residual.result c.from_residual.ensures.1 in
    rw (p.1, p.2) (to_err c.in_err-constraints.field-0.0 (holds_more (strong_pins m) (omega arith)
    (c.in_err-constraints.ensures.pins (state_count m) (omega arith))))

pub release-requires-clause-live : goal.release-requires-clause-live
release-requires-clause-live c = λ k here.
    stays_live c.search-found.ensures.call.pins k
    ((c.in_ok-constraints.ensures.pins (state_count c.args.model.now) (omega arith)).pins.there k here)

pub release-requires-clause-once : goal.release-requires-clause-once
release-requires-clause-once c =
    (c.in_ok-constraints.ensures.pins (state_count c.args.model.now) (omega arith)).pins.once

pub returns-clause-call : goal.returns-clause-call
returns-clause-call c =
    let m = c.args.model.now in
    after_search m c.in_ok-constraints.constraints.visits.items c.in_ok-constraints.ensures.sets
    (c.in_ok-constraints.ensures.pins (state_count m) (omega arith)) c.search-found.ensures.call
    c.release.ensures.pins c.release.ensures.fulls
