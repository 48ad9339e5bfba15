use Rattle.std.proofs.lemmas.Result.{err_from_is_err_and}
use Rattle.trace_files.proofs.FoundPaths.{first_state_fault, ending_fault, lasso_found, place_within}
use Rattle.trace_files.proofs.Prints.{prints_apart}
use Rattle.trace_files.proofs.path_reading.read_lasso.Goals as goal

pub returns-in_err-first : goal.returns-in_err-first
returns-in_err-first c =
    let p = err_from_is_err_and c.from_residual.result c.from_residual.ensures.1 in
    rw (p.1, p.2) (first_state_fault c.args.model.now c.in_err-first.ensures)

pub returns-in_err-others : goal.returns-in_err-others
returns-in_err-others c =
    let m = c.args.model.now in
    let p = err_from_is_err_and c.from_residual-in_err-others.result c.from_residual-in_err-others.ensures.1 in
    rw (p.1, p.2) (ending_fault m (prints_apart m c.rules_law.ensures.flat c.requires.small) c.in_ok-first.ensures c.in_err-others.ensures)

pub lasso_of-requires : goal.lasso_of-requires
lasso_of-requires c = place_within c.args.model.now c.in_ok-others.ensures

pub returns-in-Ok : goal.returns-in-Ok
returns-in-Ok c =
    lasso_found c.args.model.now c.in-Ok.lasso c.in_ok-others.others.items c.in_ok-others.place c.in-Ok.ensures.members c.in-Ok.ensures.place c.in_ok-first.ensures c.in_ok-others.ensures
