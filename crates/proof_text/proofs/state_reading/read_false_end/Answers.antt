use Rattle.std.proofs.Common.{arith, subst}
use Rattle.std.specs.Prelude.{All}
use Rattle.std.proofs.lemmas.Result.{err_from_is_err_and}
use Rattle.proof_text.specs.SmallNumbers.{IsSmallValue}
use Rattle.proof_text.proofs.FoundEnd.{false_end, no_false_end, no_state_end}
use Rattle.proof_text.proofs.Joined.{room_of}
use Rattle.proof_text.proofs.state_reading.read_false_end.Goals as goal

pub returns-in_err-state : goal.returns-in_err-state
returns-in_err-state c =
    let p = err_from_is_err_and c.from_residual.result c.from_residual.ensures.1 in
    rw (p.1, p.2) (λ levels. no_state_end c.args.model.now levels _ (c.in_err-state.ensures levels))

pub read_last-requires : goal.read_last-requires
read_last-requires c = omega (arith, c.requires, room_of c.in_ok-state.ensures)

pub returns-in_err-read_last : goal.returns-in_err-read_last
returns-in_err-read_last c =
    let p = err_from_is_err_and c.from_residual-in_err-read_last.result c.from_residual-in_err-read_last.ensures.1 in
    let small = subst (λ vs. All (λ v. All IsSmallValue v.values) vs) c.vars.ensures c.variables_law.ensures in
    rw (p.1, p.2) (λ levels. no_false_end c.args.model.now c.rules_law.ensures.flat small levels _ _ (c.in_ok-state.ensures levels) (c.in_err-read_last.ensures levels))

pub returns : goal.returns
returns c = λ levels. false_end c.args.model.now levels _ (c.in_ok-state.ensures levels) (c.in_ok-read_last.ensures levels)
