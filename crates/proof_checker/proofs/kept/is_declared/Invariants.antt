use Rattle.std.proofs.Common.{◌≡◌, take}
use Rattle.bit_encode.specs.Code.{declared}
use Rattle.proof_checker.proofs.kept.is_declared.Given as goal

-- the numbers so far
abbrev pub invariant-loop-place : goal.invariant-loop-place
invariant-loop-place l = take l.place l.order ≡ declared l.place
