use Rattle.std.proofs.Common.{◌≡◌, ◌*◌, ◌≤◌, length, take}
use Rattle.std.specs.Prelude.{sum_by}
use Rattle.bit_encode.specs.Binary.{width}
use Rattle.bit_encode.specs.Code.{types_of}
use Rattle.smv_session.proofs.bits.state_bits.Given as goal

-- the bits of the variables so far, ten for each at most
abbrev pub invariant-loop-variable : goal.invariant-loop-variable
invariant-loop-variable l =
    (l.bits ≡ sum_by (λ values. width (length values)) (take l.variable-index (types_of l.model)))
    × (l.bits ≤ 10 * l.variable-index)
