use Rattle.std.proofs.Common.{◌≡◌, ◌++◌, map, flat_map, take}
use Rattle.smv_instances.specs.Plain.{plain_expr}
use Rattle.smv_names.specs.Abbreviations.{actual_mentions}
use Rattle.smv_names.specs.Mentions.{plain_mention}
use Rattle.smv_names.proofs.mentions.push_actuals.Given as goal

abbrev pub invariant-loop-actual : goal.invariant-loop-actual
invariant-loop-actual l = map plain_mention l.mentions.items ≡ map plain_mention l.initial.mentions.items ++ flat_map actual_mentions (map plain_expr (take l.actual-index l.actuals))
