use Rattle.std.proofs.Common.{not, cond, ap, ◌∙◌}
use Rattle.value_tables.proofs.OrderLemmas.{alone_passed}
use Rattle.value_tables.proofs.orders.one_mark.Goals as goal

pub returns : goal.returns
returns c s has =
    let side = c.is_of_lesser-of_lesser.ensures in
    alone_passed s c.args.strict c.args.mark.now has _ _
    (c.region_if-lesser.ensures ∙ ap (λ b. cond b c.args.mark.now.region 0) side)
    (c.region_if-greater.ensures ∙ ap (λ b. cond (not b) c.args.mark.now.region 0) side)
