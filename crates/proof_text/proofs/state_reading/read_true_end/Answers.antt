use Rattle.std.proofs.lemmas.Result.{err_from_is_err_and}
use Rattle.proof_text.proofs.FoundEnd.{true_end, no_true_end}
use Rattle.proof_text.proofs.state_reading.read_true_end.Goals as goal

pub returns-in_err-read_last : goal.returns-in_err-read_last
returns-in_err-read_last c =
    let p = err_from_is_err_and c.from_residual.result c.from_residual.ensures.1 in
    rw (p.1, p.2) (λ levels. no_true_end c.args._model.now levels _ (c.in_err-read_last.ensures levels))

pub returns : goal.returns
returns c = λ levels. true_end c.args._model.now levels (c.in_ok-read_last.ensures levels)
