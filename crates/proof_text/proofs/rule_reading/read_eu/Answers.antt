use Rattle.std.proofs.Common.{arith}
use Rattle.std.proofs.lemmas.Result.{err_from_is_err_and}
use Rattle.proof_text.proofs.Joined.{form_ok, form_fault}
use Rattle.proof_text.proofs.RuleForms.{eu_form}
use Rattle.proof_text.proofs.rule_reading.read_eu.Goals as goal

pub returns-in_err-sets : goal.returns-in_err-sets
returns-in_err-sets c = λ count.
    let p = err_from_is_err_and c.from_residual.result c.from_residual.ensures.1 in
    rw (p.1, p.2) (form_fault (eu_form count c.args.most c.args.n (omega (arith, c.ranges.n.fits))) c.in_err-sets.ensures)

pub returns : goal.returns
returns c = λ count. form_ok (eu_form count c.args.most c.args.n (omega (arith, c.ranges.n.fits))) c.in_ok-sets.ensures
