use Rattle.std.proofs.Common.{◌+◌, ◌*◌, sym, ◌∙◌, arith}
use Rattle.std.proofs.lemmas.Result.{on_ok_weaker}
use Rattle.value_tables.specs.Weights.{overlap}
use Rattle.value_tables.proofs.StepLemmas.{on_ok}
use Rattle.value_tables.proofs.WeightLemmas.{Spends-more, put_spends}
use Rattle.value_tables.proofs.SpreadLemmas.{put_step}
use Rattle.value_tables.proofs.spread.put.Goals as goal

pub returns-in_ok-region-in-Some-clause-shows : goal.returns-in_ok-region-in-Some-clause-shows
returns-in_ok-region-in-Some-clause-shows g c =
    on_ok_weaker c.add.result (λ h bits k. h bits k ∙ put_step c.args.engine.now.store c.meet.new.engine.store c.meet.ensures.call.keeps.engine.grows c.args.out.now.items c.requires.out c.args.pick c.args.cell c.args.within c.in_ok-region-in-Some.region c.in-Some.reading (sym c.in-Some.ensures) c.in_ok-region-in-Some.ensures.region bits k) c.add.ensures.shows

pub returns-in_ok-region-in-Some-clause-thrifty : goal.returns-in_ok-region-in-Some-clause-thrifty
returns-in_ok-region-in-Some-clause-thrifty g c =
    on_ok c.add.result (put_spends c.args.engine.now.store c.meet.new.engine.store c.add.new.engine.store c.meet.ensures.call.keeps.engine.grows c.args.cell.region c.args.within c.in_ok-region-in-Some.region
    c.in_ok-region-in-Some.ensures.region c.in_ok-region-in-Some.ensures.stays c.add.ensures.stays c.meet.ensures.spends c.add.ensures.spends)

pub returns-in_ok-region-in-Some-clause-frugal : goal.returns-in_ok-region-in-Some-clause-frugal
returns-in_ok-region-in-Some-clause-frugal g c =
    let s = c.args.engine.now.store in
    let z = c.add.new.engine.store in
    Spends-more s z (2 * overlap s c.args.cell.region c.args.within) (2 * overlap s c.args.cell.region c.args.within + 1) (omega arith)
    (put_spends s c.meet.new.engine.store z c.meet.ensures.call.keeps.engine.grows c.args.cell.region c.args.within c.in_ok-region-in-Some.region
    c.in_ok-region-in-Some.ensures.region c.in_ok-region-in-Some.ensures.stays c.add.ensures.stays c.meet.ensures.spends c.add.ensures.spends)
