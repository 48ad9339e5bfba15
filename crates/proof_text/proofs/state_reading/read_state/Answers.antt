use Rattle.std.proofs.Common.{◌≡◌}
use Rattle.std.specs.Prelude.{Some, None}
use Rattle.proof_text.proofs.ReadStates.{none_found, one_found, state_ends, state_memory}
use Rattle.proof_text.proofs.state_reading.read_state.Goals as goal

pub returns-in_default : goal.returns-in_default
returns-in_default c = state_ends c.args.model.now c.rules_law.ensures.flat c.in_default.ensures

pub returns-in-Ok-None : goal.returns-in-Ok-None
returns-in-Ok-None c =
    let e : c.in-Ok-None.field-0 ≡ None = cc in
    none_found c.args.model.now c.rules_law.ensures.flat c.in-Some.ensures _ c.line-line.ensures _ c.in-Ok-None.ensures e

pub returns-in-Ok-Some : goal.returns-in-Ok-Some
returns-in-Ok-Some c =
    let e : c.in-Ok-Some.field-0 ≡ Some c.in-Ok-Some.state = cc in
    one_found c.args.model.now c.rules_law.ensures.flat c.in-Some.ensures _ _ c.in-Ok-Some.ensures e

pub returns-in-Err : goal.returns-in-Err
returns-in-Err c = state_memory c.args.model.now c.rules_law.ensures.flat c.in-Some.ensures
