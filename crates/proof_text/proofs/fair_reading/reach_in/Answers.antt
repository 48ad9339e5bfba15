use Rattle.std.proofs.Common.{arith}
use Rattle.proof_text.proofs.KnownParts.{same_two}
use Rattle.proof_text.proofs.fair_reading.reach_in.Goals as goal

pub returns-then-constraint-k : goal.returns-then-constraint-k
returns-then-constraint-k c = λ n fits is.
    let found = c.in_ok-constraint.ensures.some in
    let e = same_two _ _ _ _ _ n found.2 found.0 found.1 is c.requires.few fits in
    omega (arith, e.0, c.if-constraint-k.true)
