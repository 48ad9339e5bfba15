use Rattle.region_sets.specs.Sets.{region}
use Rattle.rank_extract.proofs.Fairs.{fair_made, fair_refused}
use Rattle.rank_extract.proofs.copying.copy_fair.Goals as goal

pub returns-in-Ok : goal.returns-in-Ok
returns-in-Ok g c =
    fair_made c.in_ok-inside.inside (region (g.S.StateSets.seen c.args.sets.now) c.args.inside.now) c.in_ok-inside.ensures.call c.in_ok-inside.ensures.set c.args.reach.now c.requires.reach c.in-Ok.reach c.in-Ok.ensures

pub returns-in-Err : goal.returns-in-Err
returns-in-Err g c =
    fair_refused c.in_ok-inside.inside (region (g.S.StateSets.seen c.args.sets.now) c.args.inside.now) c.in_ok-inside.ensures.call c.in_ok-inside.ensures.set c.args.reach.now c.requires.reach c.in-Err.ensures c.release.ensures.pins c.release.ensures.fulls
