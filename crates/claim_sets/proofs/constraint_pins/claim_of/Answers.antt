use Rattle.std.proofs.Common.{◌-◌, arith}
use Rattle.claim_sets.proofs.ConstraintSides.{empty_list, last_of_list, no_list}
use Rattle.claim_sets.proofs.constraint_pins.claim_of.Goals as goal

pub returns-then-at-lists : goal.returns-then-at-lists
returns-then-at-lists c = no_list c.args.lists.now (c.args.k - 1) (omega (arith, c.if-at-lists.true))

pub returns-then-len-eq0 : goal.returns-then-len-eq0
returns-then-len-eq0 c = empty_list c.args.lists.now (c.args.k - 1) c.index-lists-at.result (omega (arith, c.if-at-lists.false)) c.index-lists-at.is (omega (arith, c.len.ensures, c.if-len-eq0.true))

pub returns-else-len-eq0 : goal.returns-else-len-eq0
returns-else-len-eq0 c =
    last_of_list c.args.lists.now (c.args.k - 1) (c.len-else-len-eq0.result - 1) c.index-lists-at.result c.index.result.now (omega (arith, c.if-at-lists.false)) c.index-lists-at.is
    (omega (arith, c.len.ensures, c.if-len-eq0.false)) (omega (arith, c.len-else-len-eq0.ensures)) c.index.ensures
