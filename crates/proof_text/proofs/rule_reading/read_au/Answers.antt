use Rattle.std.proofs.Common.{arith}
use Rattle.std.proofs.lemmas.Result.{err_from_is_err_and}
use Rattle.proof_text.proofs.Joined.{form_ok, form_fault}
use Rattle.proof_text.proofs.RuleForms.{au_form}
use Rattle.proof_text.proofs.rule_reading.read_au.Goals as goal

pub returns-in_err-layers : goal.returns-in_err-layers
returns-in_err-layers c =
    let p = err_from_is_err_and c.from_residual.result c.from_residual.ensures.1 in
    rw (p.1, p.2) (form_fault (au_form c.args.count c.args.most c.args.n (omega (arith, c.ranges.n.fits))) c.in_err-layers.ensures)

pub returns : goal.returns
returns c = form_ok (au_form c.args.count c.args.most c.args.n (omega (arith, c.ranges.n.fits))) c.in_ok-layers.ensures
