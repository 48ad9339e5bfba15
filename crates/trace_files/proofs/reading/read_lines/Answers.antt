use Rattle.std.proofs.lemmas.Result.{err_from_is_err_and}
use Rattle.trace_files.proofs.FoundPaths.{spec_fault, lasso_fault}
use Rattle.trace_files.proofs.Prints.{prints_apart}
use Rattle.trace_files.proofs.reading.read_lines.Goals as goal

pub returns-in_err-spec : goal.returns-in_err-spec
returns-in_err-spec c =
    let p = err_from_is_err_and c.from_residual.result c.from_residual.ensures.1 in
    rw (p.1, p.2) (spec_fault c.args.model.now c.rules_law.ensures.flat c.in_err-spec.ensures)

pub returns-in_err-lasso : goal.returns-in_err-lasso
returns-in_err-lasso c =
    let m = c.args.model.now in
    let p = err_from_is_err_and c.from_residual-in_err-lasso.result c.from_residual-in_err-lasso.ensures.1 in
    rw (p.1, p.2) (lasso_fault m (prints_apart m c.rules_law.ensures.flat c.requires.small) c.in_ok-spec.ensures c.in_err-lasso.ensures)
