use Rattle.std.proofs.Common.{arith}
use Rattle.value_tables.proofs.WeightLemmas.{Spends-more}
use Rattle.value_tables.proofs.orders.join_sides.Goals as goal

pub returns-in_err-lesser-clause-spends : goal.returns-in_err-lesser-clause-spends
returns-in_err-lesser-clause-spends g c =
    Spends-more c.args.engine.now.store c.join.new.engine.store 1 2
    (omega arith) c.join.ensures.spends
