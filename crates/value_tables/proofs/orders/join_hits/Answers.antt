use Rattle.std.proofs.Common.{◌||◌, ◌&&◌, ◌∙◌, arith, rules}
use Rattle.value_tables.proofs.RegionLemmas.{keeps_join, Spends-then}
use Rattle.value_tables.proofs.WeightLemmas.{Spends-more}
use Rattle.value_tables.proofs.StepLemmas.{if_ok}
use Rattle.value_tables.proofs.orders.join_hits.Goals as goal

pub returns-clause-region : goal.returns-clause-region
returns-clause-region g c =
    let e = c.join.ensures.call.keeps.engine.grows in
    if_ok c.join_both.result c.join_both.ensures.region (λ r h. record {
      has = h.has;
      value = λ bits. h.value bits ∙ (λ i. c.in_ok-either.ensures.region.value bits i
          || (e.value c.args.first.now.lesser c.requires.first.lesser bits i
          && e.value c.args.behind.now.greater c.requires.behind.greater bits i));
    })

pub returns-clause-call : goal.returns-clause-call
returns-clause-call g c = record { keeps = keeps_join c.join.ensures.call.keeps c.join_both.ensures.call.keeps; held = search rules }

pub returns-in_err-either-clause-spends : goal.returns-in_err-either-clause-spends
returns-in_err-either-clause-spends g c =
    Spends-more c.args.engine.now.store c.join.new.engine.store 1 3
    (omega arith) c.join.ensures.spends

pub returns-clause-spends : goal.returns-clause-spends
returns-clause-spends g c = Spends-then c.args.engine.now.store c.join.new.engine.store
    c.join_both.new.engine.store 1 2 3 c.join.ensures.call.keeps.engine.grows.levels
    (omega arith) c.join.ensures.spends c.join_both.ensures.spends
