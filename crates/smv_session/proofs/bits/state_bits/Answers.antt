use Rattle.std.proofs.Common.{◌≡◌, ◌<◌, length, get_or, arith, ap, ◌∙◌}
use Rattle.bit_encode.specs.Binary.{width}
use Rattle.smv_session.proofs.BitCounts.{bits_more}
use Rattle.smv_session.proofs.bits.state_bits.Goals as goal

pub loop-variable-preserved : goal.loop-variable-preserved
loop-variable-preserved c =
    let m = c.args.model.now in
    let i = c.loop-variable.variable-index in
    let v = c.variable-item.result in
    let lt : i < length m.vars = omega (arith, c.loop-variable-test.true, ap length c.vars-variable-items.ensures) in
    let is : v ≡ get_or m.vars i v = c.variable-item.is ∙ ap (λ vars. get_or vars i v) c.vars-variable-items.ensures in
    let count : c.len.result ≡ length v.values = omega (arith, c.len.ensures, ap (λ v. length v.values) c.variable.view_is) in
    let bits = c.bit_width-bits.ensures.bits ∙ ap width count in
    let more = bits_more m i v lt is c.rules_law.ensures.short in
    (omega (arith, c.loop-variable.invariant.0, bits, more.0), omega (arith, c.loop-variable.invariant.1, bits, more.1))
