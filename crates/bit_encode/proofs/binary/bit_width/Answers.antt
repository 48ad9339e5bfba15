use Rattle.std.proofs.Common.{◌≡◌, ◌-◌, sym, arith}
use Rattle.std.proofs.lemmas.Nat.{leading_length}
use Rattle.bit_encode.specs.Binary.{width}
use Rattle.bit_encode.proofs.BinaryLemmas.{width_is, half_below}
use Rattle.bit_encode.proofs.binary.bit_width.Goals as goal

pub returns-then-count-eq0-clause-bits : goal.returns-then-count-eq0-clause-bits
returns-then-count-eq0-clause-bits c = sym (width_is c.args.count 0 (omega arith) (λ k h. omega arith))

pub returns-clause-bits : goal.returns-clause-bits
returns-clause-bits c =
    let w = leading_length 64 (c.args.count - 1) (omega arith) in
    let long : width c.args.count ≡ w.0 = width_is c.args.count w.0 (omega (arith, w.2)) (λ k h. half_below (c.args.count - 1) k w.0 (omega arith) w.3) in
    omega (arith, w.1)
