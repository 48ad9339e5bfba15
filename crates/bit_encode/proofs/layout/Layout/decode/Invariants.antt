use Rattle.bit_encode.proofs.ReadLemmas.{IsRead}
use Rattle.bit_encode.proofs.layout.Layout.decode.Given as goal

abbrev pub invariant-loop-x : goal.invariant-loop-x
invariant-loop-x l = IsRead l.self l.bits l.x l.s
