use Rattle.std.proofs.Common.{◌+◌, ◌*◌, get_or, true, false, refl, sym, ◌∙◌, ap, arith}
use Rattle.std.proofs.lemmas.List.{take_all}
use Rattle.bit_encode.specs.Binary.{number}
use Rattle.bit_encode.proofs.BinaryLemmas.{number_none, number_more}
use Rattle.bit_encode.proofs.binary.spelled.Goals as goal
use Rattle.bit_encode.proofs.binary.spelled.Goals.{then-bit, else-bit}

pub loop-bit-init : goal.loop-bit-init
loop-bit-init c = number_none

pub overflow_mul-n : goal.overflow_mul-n
overflow_mul-n c = omega (arith, c.loop-bit.invariant, (number_more c.args.bits.now c.loop-bit.bit-index (get_or c.args.bits.now c.loop-bit.bit-index false) false (omega arith) c.requires refl).0)

pub overflow_add-n : goal.overflow_add-n
overflow_add-n c = omega (arith, c.loop-bit.invariant, (number_more c.args.bits.now c.loop-bit.bit-index (get_or c.args.bits.now c.loop-bit.bit-index false) false (omega arith) c.requires refl).0)

pub overflow_mul-n-else-bit : goal.overflow_mul-n-else-bit
overflow_mul-n-else-bit c = omega (arith, c.loop-bit.invariant, (number_more c.args.bits.now c.loop-bit.bit-index (get_or c.args.bits.now c.loop-bit.bit-index false) false (omega arith) c.requires refl).0)

pub loop-bit-preserved : goal.loop-bit-preserved
loop-bit-preserved c = elim c.if-bit.branch [
  | then-bit w ↦ let more = number_more c.args.bits.now c.loop-bit.bit-index true _ (omega arith) c.requires (sym w.if-bit.true) in
      w.n-is ∙ ap (λ n. 2 * n + 1) c.loop-bit.invariant ∙ sym more.1
  | else-bit w ↦ let more = number_more c.args.bits.now c.loop-bit.bit-index false _ (omega arith) c.requires (sym w.if-bit.false) in
      w.n-is ∙ ap (λ n. 2 * n) c.loop-bit.invariant ∙ omega arith ∙ sym more.1
]

pub returns : goal.returns
returns c = c.loop-bit.invariant ∙ ap number (take_all _ c.args.bits.now (omega arith))
