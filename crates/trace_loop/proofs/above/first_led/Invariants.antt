use Rattle.kripke_model.specs.Path.{at}
use Rattle.trace_loop.specs.Above.{IsNoneLed}
use Rattle.trace_loop.proofs.above.first_led.Given as goal

abbrev pub invariant-loop-i : goal.invariant-loop-i
invariant-loop-i l = IsNoneLed l.model (at l.lasso) l.above l.fn.starts.first l.i
