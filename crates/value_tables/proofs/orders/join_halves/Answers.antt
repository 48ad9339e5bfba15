use Rattle.std.proofs.Common.{arith, rules}
use Rattle.value_tables.proofs.RegionLemmas.{keeps_join, Spends-then}
use Rattle.value_tables.proofs.WeightLemmas.{Spends-more}
use Rattle.value_tables.proofs.OrderLemmas.{held-grows}
use Rattle.value_tables.proofs.orders.join_halves.Goals as goal

pub join_sides-requires-clause-first : goal.join_sides-requires-clause-first
join_sides-requires-clause-first g c = held-grows c.join_hits.ensures.call.keeps.engine.grows c.requires.first

pub join_sides-requires-clause-behind : goal.join_sides-requires-clause-behind
join_sides-requires-clause-behind g c = held-grows c.join_hits.ensures.call.keeps.engine.grows c.requires.behind

pub returns-clause-call : goal.returns-clause-call
returns-clause-call g c = record { keeps = keeps_join c.join_hits.ensures.call.keeps c.join_sides.ensures.call.keeps; held = search rules }

pub returns-in_err-hit-clause-spends : goal.returns-in_err-hit-clause-spends
returns-in_err-hit-clause-spends g c =
    Spends-more c.args.engine.now.store c.join_hits.new.engine.store 3 5
    (omega arith) c.join_hits.ensures.spends

pub returns-clause-spends : goal.returns-clause-spends
returns-clause-spends g c = Spends-then c.args.engine.now.store c.join_hits.new.engine.store
    c.join_sides.new.engine.store 3 2 5 c.join_hits.ensures.call.keeps.engine.grows.levels
    (omega arith) c.join_hits.ensures.spends c.join_sides.ensures.spends
