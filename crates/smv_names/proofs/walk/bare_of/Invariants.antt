use Rattle.std.proofs.Common.{◌≡◌}
use Rattle.smv_instances.specs.Plain.{plain_expr}
use Rattle.smv_names.specs.Denotes.{bare}
use Rattle.smv_names.proofs.walk.bare_of.Given as goal

abbrev pub invariant-loop-inner : goal.invariant-loop-inner
invariant-loop-inner l = bare (plain_expr l.inner) ≡ bare (plain_expr l.fn.expr)
