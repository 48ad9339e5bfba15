use Rattle.spec_leaves.proofs.Others.{first_here, first_later}
use Rattle.spec_leaves.proofs.named.+first_other.Goals as goal

pub returns-then-is_none : goal.returns-then-is_none
returns-then-is_none t c =
    first_here c.args.model.now _ c.args.numbers.now c.spec_leaf.result c.in-len1-up.len_at_least
    c.spec_leaf.ensures.leaf c.if-is_none.ensures

pub returns : goal.returns
returns t c =
    first_later c.args.model.now _ c.args.numbers.now c.spec_leaf.result c.in-len1-up.len_at_least
    c.spec_leaf.ensures.leaf c.if-is_none.ensures c.first_other.result c.first_other.ensures
