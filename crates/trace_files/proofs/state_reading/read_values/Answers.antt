use Rattle.std.proofs.Common.{◌<◌, ◌+◌, length, sym, ap, subst, arith}
use Rattle.std.proofs.lemmas.Result.{err_from_is_err_and}
use Rattle.trace_files.proofs.FoundStates.{ValuesRead, count_read, one_more_value, value_fault}
use Rattle.trace_files.proofs.Prints.{prints_apart}
use Rattle.trace_files.proofs.state_reading.read_values.Goals as goal

pub read_value-requires-clause-more : goal.read_value-requires-clause-more
read_value-requires-clause-more c = omega (arith, count_read c.args.model.now c.loop-x.invariant, c.loop-x-test.true, ap length c.vars-x-end.ensures)

pub returns-in_err-value : goal.returns-in_err-value
returns-in_err-value c =
    let m = c.args.model.now in
    let p = err_from_is_err_and c.from_residual.result c.from_residual.ensures.1 in
    let less : c.loop-x._x < length m.vars = omega (arith, c.loop-x-test.true, ap length c.vars-x-end.ensures) in
    rw (p.1, p.2) (value_fault m c.rules_law.ensures.flat (prints_apart m c.rules_law.ensures.flat c.requires.small) less c.loop-x.invariant c.in_err-value.ensures)

pub loop-x-preserved : goal.loop-x-preserved
loop-x-preserved c =
    subst (λ s. ValuesRead c.args.model.now (c.loop-x._x + 1) c.args.cursor.now s c.read_value.new.cursor) (sym c.in-Ok.ensures) (one_more_value c.args.model.now c.loop-x._x c.loop-x.invariant c.in_ok-value.ensures)
