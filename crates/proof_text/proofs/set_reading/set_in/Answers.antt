use Rattle.std.proofs.Common.{arith}
use Rattle.proof_text.proofs.KnownParts.{same_one}
use Rattle.proof_text.proofs.set_reading.set_in.Goals as goal

pub returns-then-from-most : goal.returns-then-from-most
returns-then-from-most c = λ set fits is.
    let e = same_one _ _ _ set c.in_ok-set.ensures.some.1 c.in_ok-set.ensures.some.0 is fits.1 in
    omega (arith, e, fits.0, c.from.ensures, c.if-from-most.true)
