use Rattle.std.proofs.Common.{◌++◌, ◌∙◌, ap, arith, map, flat_map}
use Rattle.smv_instances.specs.Plain.{plain_expr}
use Rattle.smv_instances.proofs.ListSteps.{flat_step, take_whole}
use Rattle.smv_names.specs.Abbreviations.{actual_mentions}
use Rattle.smv_names.specs.Mentions.{plain_mention}
use Rattle.smv_names.proofs.mentions.push_actuals.Goals as goal

pub loop-actual-preserved : goal.loop-actual-preserved
loop-actual-preserved c = flat_step plain_mention plain_expr actual_mentions (map plain_mention c.args.mentions.now.items) c.loop-actual.mentions.items c.push_actual.new.mentions.items c.args.actuals.now c.loop-actual.actual-index c.actual-item.result
    c.loop-actual-test.true c.loop-actual.invariant (c.in_ok-push_actual.ensures ∙ ap (λ z. map plain_mention c.loop-actual.mentions.items ++ actual_mentions (plain_expr z)) c.actual-item.is)

pub returns : goal.returns
returns c = c.loop-actual.invariant ∙ ap (λ xs. map plain_mention c.args.mentions.now.items ++ flat_map actual_mentions (map plain_expr xs)) (take_whole c.args.actuals.now c.loop-actual.actual-index (omega (arith, c.loop-actual-test.false)))
