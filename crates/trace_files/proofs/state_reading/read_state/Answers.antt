use Rattle.std.proofs.lemmas.Result.{err_from_is_err_and}
use Rattle.trace_files.proofs.FoundStates.{head_fault, state_found}
use Rattle.trace_files.proofs.Prints.{prints_apart}
use Rattle.trace_files.proofs.state_reading.read_state.Goals as goal

pub returns-in_err-read_head : goal.returns-in_err-read_head
returns-in_err-read_head c =
    let m = c.args.model.now in
    let p = err_from_is_err_and c.from_residual.result c.from_residual.ensures.1 in
    rw (p.1, p.2) (head_fault m c.rules_law.ensures.flat (prints_apart m c.rules_law.ensures.flat c.requires.small) c.args.k c.in_err-read_head.ensures)

pub returns : goal.returns
returns c =
    let m = c.args.model.now in
    state_found m c.rules_law.ensures.flat (prints_apart m c.rules_law.ensures.flat c.requires.small) c.args.k c.read_values.result c.in_ok-read_head.ensures c.read_values.ensures
