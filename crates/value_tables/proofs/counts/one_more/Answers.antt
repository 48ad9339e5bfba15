use Rattle.std.proofs.Common.{◌||◌, ◌∙◌, arith, rules}
use Rattle.value_tables.proofs.RegionLemmas.{IsRegion-grows, keeps_join, Spends-then}
use Rattle.value_tables.proofs.WeightLemmas.{Spends-more}
use Rattle.value_tables.proofs.counts.one_more.Goals as goal

pub returns-clause-one : goal.returns-clause-one
returns-clause-one g c =
    let grows = c.join_both.ensures.call.keeps.engine.grows in
    record {
      has = c.in_ok-one.ensures.region.has;
      value = λ bits. c.in_ok-one.ensures.region.value bits ∙ (λ i. grows.value c.args.so_far.one c.requires.one bits i || grows.value c.args.region c.requires.region bits i);
    }

pub returns-clause-two : goal.returns-clause-two
returns-clause-two g c = IsRegion-grows c.join_both.new.engine.store c.join.new.engine.store c.join.ensures.call.keeps.engine.grows c.in_ok-two.two _ c.in_ok-two.ensures.region

pub returns-in_err-one-clause-call : goal.returns-in_err-one-clause-call
returns-in_err-one-clause-call g c = record { keeps = keeps_join c.join_both.ensures.call.keeps c.join.ensures.call.keeps; held = search rules }

pub returns-clause-call : goal.returns-clause-call
returns-clause-call g c = record { keeps = keeps_join c.join_both.ensures.call.keeps c.join.ensures.call.keeps; held = search rules }

pub returns-in_err-two-clause-spends : goal.returns-in_err-two-clause-spends
returns-in_err-two-clause-spends g c = Spends-more c.args.engine.now.store c.join_both.new.engine.store 2 3 (omega arith) c.join_both.ensures.spends

pub returns-in_err-one-clause-spends : goal.returns-in_err-one-clause-spends
returns-in_err-one-clause-spends g c = Spends-then c.args.engine.now.store c.join_both.new.engine.store c.join.new.engine.store 2 1 3 c.join_both.ensures.call.keeps.engine.grows.levels (omega arith) c.join_both.ensures.spends c.join.ensures.spends

pub returns-clause-spends : goal.returns-clause-spends
returns-clause-spends g c = Spends-then c.args.engine.now.store c.join_both.new.engine.store c.join.new.engine.store 2 1 3 c.join_both.ensures.call.keeps.engine.grows.levels (omega arith) c.join_both.ensures.spends c.join.ensures.spends
