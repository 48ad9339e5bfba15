use Rattle.std.proofs.Common.{◌∙◌, ap, arith}
use Rattle.std.proofs.lemmas.Result.{err_from_is_err_and}
use Rattle.fair_fixpoint.proofs.Lists.{to_err, to_ok}
use Rattle.path_laws.specs.StateCount.{state_count}
use Rattle.proof_form.proofs.Copied.{to_memory}
use Rattle.region_sets.specs.Sets.{Gauge}
use Rattle.strong_fair.specs.Pinned.{certificate_slots}
use Rattle.strong_export.proofs.Searched.{all_back}
use Rattle.strong_export.proofs.finding.search.Goals as goal

pub returns-in_err-path-clause-call : goal.returns-in_err-path-clause-call
returns-in_err-path-clause-call c =
    let p = err_from_is_err_and c.from_residual.result c.from_residual.ensures.1 in
    rw (p.1, p.2) (to_err c.in_err-path.field-0.0
    (c.in_err-path.ensures.call (state_count c.args.model.now) (omega arith)))

pub export_certificate-requires-clause-live : goal.export_certificate-requires-clause-live
export_certificate-requires-clause-live c =
    let call = rw c.in-Closed.is at
    (c.in_ok-path.ensures.call (state_count c.args.model.now) (omega arith)) in
    call.pins.there

pub export_certificate-requires-clause-once : goal.export_certificate-requires-clause-once
export_certificate-requires-clause-once c =
    let call = rw c.in-Closed.is at
    (c.in_ok-path.ensures.call (state_count c.args.model.now) (omega arith)) in
    call.pins.once

pub returns-in_err-over-in-Closed-clause-call : goal.returns-in_err-over-in-Closed-clause-call
returns-in_err-over-in-Closed-clause-call c =
    let call = rw c.in-Closed.is at
    (c.in_ok-path.ensures.call (state_count c.args.model.now) (omega arith)) in
    let p = err_from_is_err_and c.from_residual-in_err-over-in-Closed.result
    c.from_residual-in_err-over-in-Closed.ensures.1 in
    rw (p.1, p.2) (to_memory (all_back (certificate_slots c.in-Closed.certificate) call
    c.export_certificate.ensures.pins c.export_certificate.ensures.fulls))

pub returns-in-Loop-clause-call : goal.returns-in-Loop-clause-call
returns-in-Loop-clause-call c =
    let call = rw c.in-Loop.is at
    (c.in_ok-path.ensures.call (state_count c.args.model.now) (omega arith)) in
    to_ok _ call

pub returns-in_ok-over-in-Closed-clause-call : goal.returns-in_ok-over-in-Closed-clause-call
returns-in_ok-over-in-Closed-clause-call c =
    let call = rw c.in-Closed.is at
    (c.in_ok-path.ensures.call (state_count c.args.model.now) (omega arith)) in
    to_ok _ (all_back (certificate_slots c.in-Closed.certificate) call
    c.export_certificate.ensures.pins c.export_certificate.ensures.fulls)

pub returns-in_ok-over-in-Closed-clause-found : goal.returns-in_ok-over-in-Closed-clause-found
returns-in_ok-over-in-Closed-clause-found c =
    let m = c.args.model.now in
    let call = c.in_ok-path.ensures.call (state_count m) (omega arith) in
    let shows = rw c.in-Closed.is at c.in_ok-path.ensures.answer in
    let exact = rw c.in-Closed.is at c.in_ok-path.ensures.exact in (
      c.in_ok-over-in-Closed.ensures.shown m c.args.pairs.now (call.pins.over ∙ c.requires.over)
          (ap (λ (g : Gauge). g.order) call.pins.gauge ∙ c.requires.order) shows,
      λ has. exact.1 has,
    )
