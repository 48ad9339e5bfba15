use Rattle.region_sets.proofs.Changes.{stays_live}
use Rattle.work_bench.proofs.making.measure.Goals as goal

pub release-requires-clause-live : goal.release-requires-clause-live
release-requires-clause-live c =
    λ k e. stays_live c.make_by-made.ensures k (c.in_ok-run.ensures.call.pins.there k e)
