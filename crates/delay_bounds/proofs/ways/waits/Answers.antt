use Rattle.std.proofs.Common.{sym, ◌∙◌}
use Rattle.region_sets.specs.Sets.{In}
use Rattle.std.proofs.lemmas.Bool.{false≢true}
use Rattle.delay_bounds.proofs.WayCalls.{waits_some}
use Rattle.delay_bounds.proofs.ways.waits.Goals as goal

pub returns-then-is_left : goal.returns-then-is_left
returns-then-is_left g c =
    waits_some (In (g.S.StateSets.seen c.args.sets.now) c.args.to.now.slot) c.args.way.now c.args.start c.args.steps c.avoids_from.result
    (λ none. false≢true (sym c.if-is_none.false ∙ c.is_none.ensures.1 none)) (c.is_left-2.ensures.0 c.if-is_left.true) c.avoids_from.ensures
