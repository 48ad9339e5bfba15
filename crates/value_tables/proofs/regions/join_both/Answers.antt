use Rattle.std.proofs.Common.{◌||◌, ◌∙◌, arith, rules}
use Rattle.value_tables.proofs.RegionLemmas.{keeps_join, Spends-then}
use Rattle.value_tables.proofs.WeightLemmas.{Spends-more}
use Rattle.value_tables.proofs.StepLemmas.{if_ok}
use Rattle.value_tables.proofs.regions.join_both.Goals as goal

pub returns-clause-region : goal.returns-clause-region
returns-clause-region g c = if_ok c.join.result c.join.ensures.region (λ r h. record { has = h.has; value = λ bits. h.value bits ∙ (λ i. c.meet.ensures.call.keeps.engine.grows.value c.args.f c.requires.f bits i || c.in_ok-both.ensures.region.value bits i) })

pub returns-clause-call : goal.returns-clause-call
returns-clause-call g c = record { keeps = keeps_join c.meet.ensures.call.keeps c.join.ensures.call.keeps; held = search rules }

pub returns-in_err-both-clause-spends : goal.returns-in_err-both-clause-spends
returns-in_err-both-clause-spends g c = Spends-more c.args.engine.now.store c.meet.new.engine.store 1 2 (omega arith) c.meet.ensures.spends

pub returns-clause-spends : goal.returns-clause-spends
returns-clause-spends g c = Spends-then c.args.engine.now.store c.meet.new.engine.store c.join.new.engine.store 1 1 2 c.meet.ensures.call.keeps.engine.grows.levels (omega arith) c.meet.ensures.spends c.join.ensures.spends
