use Rattle.std.proofs.Common.{◌≡◌, length, rules}
use Rattle.value_tables.proofs.OrderLemmas.{no_pairs}
use Rattle.value_tables.proofs.orders.pairs_of.Goals as goal

pub returns-then-is_empty-clause-region : goal.returns-then-is_empty-clause-region
returns-then-is_empty-clause-region g c = let none : length c.args.marks.now ≡ 0 =
    search rules in no_pairs c.args.engine.now.store c.args.strict c.args.marks.now none
