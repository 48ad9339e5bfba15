use Rattle.std.proofs.Common.{◌≡◌, ◌+◌, length, arith}
use Rattle.std.proofs.lemmas.Result.{err_from_is_err_and}
use Rattle.trace_files.proofs.FoundStates.{one_more_state, later_fault}
use Rattle.trace_files.proofs.Prints.{prints_apart}
use Rattle.trace_files.proofs.path_reading.read_later.Goals as goal

pub returns-in_err-state-clause-fault : goal.returns-in_err-state-clause-fault
returns-in_err-state-clause-fault c =
    let m = c.args.model.now in
    let p = err_from_is_err_and c.from_residual.result c.from_residual.ensures.1 in
    let at : c.len.result + 1 ≡ length c.loop-alloc.states.items + 1 = omega (arith, c.len.ensures, c.loop-alloc.states.ok) in
    rw (p.1, p.2) (later_fault m c.rules_law.ensures.flat (prints_apart m c.rules_law.ensures.flat c.requires.small) c.loop-alloc.invariant (c.len.result + 1) at (c.begins_with.ensures.yes c.loop-alloc-test.true)
    c.in_err-state.ensures)

pub loop-alloc-preserved : goal.loop-alloc-preserved
loop-alloc-preserved c =
    let at : c.len.result + 1 ≡ length c.loop-alloc.states.items + 1 = omega (arith, c.len.ensures, c.loop-alloc.states.ok) in
    rw c.in-Ok.ensures.items (one_more_state c.args.model.now (c.len.result + 1) at c.loop-alloc.invariant c.in_ok-state.ensures)
