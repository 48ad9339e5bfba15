use Rattle.std.proofs.Common.{◌+◌, ◌<◌}
use Rattle.kripke_model.specs.Path.{at, member_count}
use Rattle.kripke_model.specs.Reading.{term_of}
use Rattle.trace_loop.specs.Places.{SameFrom}
use Rattle.trace_loop.proofs.Walks.{Passed}
use Rattle.trace_loop.proofs.falsifying.met_after.Given as goal

abbrev pub invariant-loop-step : goal.invariant-loop-step
invariant-loop-step l = record {
  member : l.place < member_count l.lasso;
  same : SameFrom (at l.lasso) (l.i + l.step) l.place;
  passed : Passed l.model (at l.lasso) (term_of l.d) (term_of l.e) l.i l.step;
}
