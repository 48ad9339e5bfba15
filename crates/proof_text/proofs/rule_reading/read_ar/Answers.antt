use Rattle.std.proofs.lemmas.Result.{err_from_is_err_and}
use Rattle.proof_text.proofs.Joined.{form_ok, form_fault}
use Rattle.proof_text.proofs.RuleForms.{ar_form}
use Rattle.proof_text.proofs.rule_reading.read_ar.Goals as goal

pub returns-in_err-set : goal.returns-in_err-set
returns-in_err-set c = λ count.
    let p = err_from_is_err_and c.from_residual.result c.from_residual.ensures.1 in
    rw (p.1, p.2) (form_fault (ar_form count c.args.most) c.in_err-set.ensures)

pub returns : goal.returns
returns c = λ count. form_ok (ar_form count c.args.most) c.in_ok-set.ensures
