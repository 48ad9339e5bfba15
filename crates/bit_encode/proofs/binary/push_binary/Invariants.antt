use Rattle.std.proofs.Common.{◌≡◌, ◌≤◌, ◌++◌}
use Rattle.bit_encode.specs.Binary.{binary}
use Rattle.bit_encode.proofs.binary.push_binary.Given as goal

-- what is pushed, and the bits that are left
abbrev pub invariant-loop-left : goal.invariant-loop-left
invariant-loop-left l = (l.left ≤ 64) × (l.bits.items ++ binary l.left l.rest ≡ l.fn.bits.items ++ binary l.len l.n)

abbrev pub decreases-loop-left : goal.decreases-loop-left
decreases-loop-left l = l.left
