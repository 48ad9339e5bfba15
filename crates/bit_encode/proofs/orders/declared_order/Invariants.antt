use Rattle.std.proofs.Common.{◌≡◌}
use Rattle.bit_encode.specs.Code.{declared}
use Rattle.bit_encode.proofs.orders.declared_order.Given as goal

-- the numbers so far
abbrev pub invariant-loop-var : goal.invariant-loop-var
invariant-loop-var l = l.order.items ≡ declared l.var
