use Rattle.trace_files.proofs.FoundStates.{ValuesRead}
use Rattle.trace_files.proofs.state_reading.read_values.Given as goal

-- the values of as many variables are read
abbrev pub invariant-loop-x : goal.invariant-loop-x
invariant-loop-x l = ValuesRead l.model l._x l.initial.cursor l.state l.cursor
