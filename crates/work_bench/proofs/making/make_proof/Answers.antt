use Rattle.std.proofs.Common.{[], ◌∙◌, ap}
use Rattle.region_sets.specs.Sets.{Gauge}
use Rattle.region_sets.proofs.Changes.{adds_after, stays_live, takes_back}
use Rattle.proof_form.specs.Pinned.{proof_slots}
use Rattle.work_bench.proofs.making.make_proof.Goals as goal

pub file_of-text-requires-clause-order : goal.file_of-text-requires-clause-order
file_of-text-requires-clause-order c =
    ap (λ (g : Gauge). g.order) c.in_ok-proof.ensures.call.pins.gauge ∙ c.requires.order

pub release-requires-clause-live : goal.release-requires-clause-live
release-requires-clause-live c =
    λ k e. stays_live c.file_of-text.ensures.pins k (c.in_ok-proof.ensures.call.pins.there k e)

pub returns : goal.returns
returns c =
    takes_back {xs = proof_slots c.in_ok-proof.proof} {ys = []}
    (adds_after c.in_ok-proof.ensures.call.pins c.file_of-text.ensures.pins) c.release.ensures.pins

pub returns-in_err-text : goal.returns-in_err-text
returns-in_err-text c =
    takes_back {xs = proof_slots c.in_ok-proof.proof} {ys = []}
    (adds_after c.in_ok-proof.ensures.call.pins c.file_of-text.ensures.pins) c.release.ensures.pins
