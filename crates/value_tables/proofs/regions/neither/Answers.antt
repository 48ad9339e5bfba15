use Rattle.std.proofs.Common.{not, ap, ◌∙◌, arith, rules}
use Rattle.value_tables.proofs.RegionLemmas.{keeps_join, Spends-then}
use Rattle.value_tables.proofs.WeightLemmas.{Spends-more}
use Rattle.value_tables.proofs.StepLemmas.{if_ok}
use Rattle.value_tables.proofs.regions.neither.Goals as goal

pub returns-clause-region : goal.returns-clause-region
returns-clause-region g c = if_ok c.outside.result c.outside.ensures.region (λ r h. record { has = h.has; value = λ bits. h.value bits ∙ ap not (c.in_ok-either.ensures.region.value bits) })

pub returns-clause-call : goal.returns-clause-call
returns-clause-call g c = record { keeps = keeps_join c.join.ensures.call.keeps c.outside.ensures.call.keeps; held = search rules }

pub returns-in_err-either-clause-spends : goal.returns-in_err-either-clause-spends
returns-in_err-either-clause-spends g c = Spends-more c.args.engine.now.store c.join.new.engine.store 1 2 (omega arith) c.join.ensures.spends

pub returns-clause-spends : goal.returns-clause-spends
returns-clause-spends g c = Spends-then c.args.engine.now.store c.join.new.engine.store c.outside.new.engine.store 1 1 2 c.join.ensures.call.keeps.engine.grows.levels (omega arith) c.join.ensures.spends c.outside.ensures.spends
