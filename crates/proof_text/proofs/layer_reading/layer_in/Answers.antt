use Rattle.std.proofs.Common.{arith}
use Rattle.proof_text.proofs.KnownParts.{same_two}
use Rattle.proof_text.proofs.layer_reading.layer_in.Goals as goal

pub returns-then-avoid-eq0 : goal.returns-then-avoid-eq0
returns-then-avoid-eq0 c = λ l fits is.
    let found = c.in_ok-avoid.ensures.some in
    let e = same_two _ _ _ _ l.avoid l.set found.2 found.0 found.1 is (omega (arith, fits.0.1, c.requires.few)) fits.1.1 in
    omega (arith, e.0, fits.0.0, c.if-avoid-eq0.true)

pub returns-then-avoid-count : goal.returns-then-avoid-count
returns-then-avoid-count c = λ l fits is.
    let found = c.in_ok-avoid.ensures.some in
    let e = same_two _ _ _ _ l.avoid l.set found.2 found.0 found.1 is (omega (arith, fits.0.1, c.requires.few)) fits.1.1 in
    omega (arith, e.0, fits.0.1, c.if-avoid-count.true)

pub returns-then-from-most : goal.returns-then-from-most
returns-then-from-most c = λ l fits is.
    let found = c.in_ok-avoid.ensures.some in
    let e = same_two _ _ _ _ l.avoid l.set found.2 found.0 found.1 is (omega (arith, fits.0.1, c.requires.few)) fits.1.1 in
    omega (arith, e.1, fits.1.0, c.from.ensures, c.if-from-most.true)
