use Rattle.std.proofs.Common.{◌∙◌, ◌+◌, ◌*◌, ◌&&◌, ◌||◌, sym, ap, arith}
use Rattle.std.proofs.lemmas.Result.{on_ok_weaker}
use Rattle.bdd_nodes.specs.Store.{value_of}
use Rattle.value_tables.specs.Cells.{shows}
use Rattle.value_tables.specs.Tables.{pairs_to}
use Rattle.value_tables.specs.Weights.{weight, overlaps}
use Rattle.value_tables.proofs.WeightLemmas.{Spends-more, overlaps-most}
use Rattle.value_tables.proofs.pairs.pair_with.Goals as goal

pub returns-in-Ok-clause-shows : goal.returns-in-Ok-clause-shows
returns-in-Ok-clause-shows g c =
    let s = c.args.engine.now.store in
    on_ok_weaker c.spread.result (λ h bits k. h bits k ∙ ap (λ r. shows (λ q. value_of s q bits) c.args.out.now.items k || (pairs_to (λ q. value_of s q bits) c.args.op k c.args.right.now r && value_of s c.args.cell.region bits)) (sym c.in-Ok.is)) c.spread.ensures.shows

pub returns-in-Ok-clause-thrifty : goal.returns-in-Ok-clause-thrifty
returns-in-Ok-clause-thrifty g c =
    let s = c.args.engine.now.store in
    λ apart. on_ok_weaker c.spread.result (λ h. Spends-more s c.spread.new.engine.store (2 * overlaps s c.args.right.now c.args.cell.region) (2 * weight s c.args.cell.region) (omega (arith, overlaps-most s c.args.right.now c.args.cell.region apart)) h) c.spread.ensures.thrifty

pub returns-in-Ok-clause-frugal : goal.returns-in-Ok-clause-frugal
returns-in-Ok-clause-frugal g c =
    let s = c.args.engine.now.store in
    λ apart. Spends-more s c.spread.new.engine.store (2 * overlaps s c.args.right.now c.args.cell.region + 1) (2 * weight s c.args.cell.region + 1) (omega (arith, overlaps-most s c.args.right.now c.args.cell.region apart)) c.spread.ensures.frugal
