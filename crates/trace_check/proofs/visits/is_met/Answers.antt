use Rattle.std.proofs.Common.{List, sym, subst}
use Rattle.std.specs.Prelude.{Any, IsTrue}
use Rattle.kripke_model.specs.System.{State}
use Rattle.region_sets.specs.declared.pins.Pin.{Pin}
use Rattle.region_sets.specs.Sets.{In, IsLive}
use Rattle.fair_fixpoint.proofs.FairOver.{slot_in}
use Rattle.trace_check.proofs.Visited.{met_iff}
use Rattle.trace_check.proofs.visits.is_met.Goals as goal

pub is_visited-requires-clause-live : goal.is_visited-requires-clause-live
is_visited-requires-clause-live g c =
    let visits = c.args.constraints.now.visits.items in
    subst (λ (q : Pin). IsLive (g.S.StateSets.seen c.args.sets.now) q.slot) (sym c.index.ensures) (c.requires.live _ (slot_in visits c.args.place c.index.result.now c.requires.there))

pub returns : goal.returns
returns g c =
    let now = g.S.StateSets.seen c.args.sets.now in
    let visits = c.args.constraints.now.visits.items in
    met_iff c.args._model.now now visits c.requires.made c.args.lasso.now c.requires.states c.args.place c.index.result.now c.requires.there
    (subst (λ (q : Pin). (IsTrue c.is_visited.result → Any (λ s. In now q.slot s) c.args.lasso.now.cycle) × (Any (λ s. In now q.slot s) c.args.lasso.now.cycle → IsTrue c.is_visited.result)) c.index.ensures
    (subst (λ (ss : List State). (IsTrue c.is_visited.result → Any (λ s. In now c.index.result.now.slot s) ss) × (Any (λ s. In now c.index.result.now.slot s) ss → IsTrue c.is_visited.result)) c.cycle.ensures c.is_visited.ensures))
