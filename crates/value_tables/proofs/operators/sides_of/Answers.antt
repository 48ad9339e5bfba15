use Rattle.std.proofs.Common.{◌&&◌, not, ◌∙◌, arith, rules}
use Rattle.value_tables.proofs.RegionLemmas.{IsRegion-grows, keeps_join, Spends-then}
use Rattle.value_tables.proofs.WeightLemmas.{Spends-more}
use Rattle.value_tables.proofs.operators.sides_of.Goals as goal

pub returns-clause-no : goal.returns-clause-no
returns-clause-no g c = IsRegion-grows c.neither.new.engine.store c.only.new.engine.store c.only.ensures.call.keeps.engine.grows c.in_ok-no.no _ c.in_ok-no.ensures.region

pub returns-clause-yes : goal.returns-clause-yes
returns-clause-yes g c =
    let grows = c.neither.ensures.call.keeps.engine.grows in
    record {
      has = c.in_ok-yes.ensures.region.has;
      value = λ bits. c.in_ok-yes.ensures.region.value bits ∙ (λ i. grows.value c.args.hit c.requires.hit bits i && not (grows.value c.args.faulty c.requires.faulty bits i));
    }

pub returns-in_err-yes-clause-call : goal.returns-in_err-yes-clause-call
returns-in_err-yes-clause-call g c = record { keeps = keeps_join c.neither.ensures.call.keeps c.only.ensures.call.keeps; held = search rules }

pub returns-clause-call : goal.returns-clause-call
returns-clause-call g c = record { keeps = keeps_join c.neither.ensures.call.keeps c.only.ensures.call.keeps; held = search rules }

pub returns-in_err-no-clause-spends : goal.returns-in_err-no-clause-spends
returns-in_err-no-clause-spends g c = Spends-more c.args.engine.now.store c.neither.new.engine.store 2 4 (omega arith) c.neither.ensures.spends

pub returns-in_err-yes-clause-spends : goal.returns-in_err-yes-clause-spends
returns-in_err-yes-clause-spends g c = Spends-then c.args.engine.now.store c.neither.new.engine.store c.only.new.engine.store 2 2 4 c.neither.ensures.call.keeps.engine.grows.levels (omega arith) c.neither.ensures.spends c.only.ensures.spends

pub returns-clause-spends : goal.returns-clause-spends
returns-clause-spends g c = Spends-then c.args.engine.now.store c.neither.new.engine.store c.only.new.engine.store 2 2 4 c.neither.ensures.call.keeps.engine.grows.levels (omega arith) c.neither.ensures.spends c.only.ensures.spends
