use Rattle.std.proofs.Common.{◌&&◌, ◌∙◌, arith, rules}
use Rattle.value_tables.proofs.RegionLemmas.{keeps_join, Spends-then}
use Rattle.value_tables.proofs.WeightLemmas.{Spends-more}
use Rattle.value_tables.proofs.StepLemmas.{if_ok}
use Rattle.value_tables.proofs.regions.only.Goals as goal

pub returns-clause-region : goal.returns-clause-region
returns-clause-region g c = if_ok c.meet.result c.meet.ensures.region (λ r h. record { has = h.has; value = λ bits. h.value bits ∙ (λ i. c.outside.ensures.call.keeps.engine.grows.value c.args.f c.requires.f bits i && c.in_ok-rest.ensures.region.value bits i) })

pub returns-clause-call : goal.returns-clause-call
returns-clause-call g c = record { keeps = keeps_join c.outside.ensures.call.keeps c.meet.ensures.call.keeps; held = search rules }

pub returns-in_err-rest-clause-spends : goal.returns-in_err-rest-clause-spends
returns-in_err-rest-clause-spends g c = Spends-more c.args.engine.now.store c.outside.new.engine.store 1 2 (omega arith) c.outside.ensures.spends

pub returns-clause-spends : goal.returns-clause-spends
returns-clause-spends g c = Spends-then c.args.engine.now.store c.outside.new.engine.store c.meet.new.engine.store 1 1 2 c.outside.ensures.call.keeps.engine.grows.levels (omega arith) c.outside.ensures.spends c.meet.ensures.spends
