use Rattle.std.proofs.Common.{◌≡◌, take}
use Rattle.bit_encode.specs.Binary.{number}
use Rattle.bit_encode.proofs.binary.spelled.Given as goal

abbrev pub invariant-loop-bit : goal.invariant-loop-bit
invariant-loop-bit l = l.n ≡ number (take l.bit-index l.bits)
