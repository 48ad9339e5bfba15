use Rattle.std.proofs.Common.{◌<◌, length, refl, ◌∙◌, arith}
use Rattle.std.proofs.lemmas.Option.{slice_get_read}
use Rattle.answer_memo.proofs.Spreads.{IsSpread-empty, IsSpread-count}
use Rattle.answer_memo.proofs.memo.spread.Goals as goal

pub loop-i-init : goal.loop-i-init
loop-i-init g c = (omega arith, refl, IsSpread-empty g.K.Hash.hash_input c.args.from.now c.args.to.now.items c.requires.empty)

pub overflow_add-filled : goal.overflow_add-filled
overflow_add-filled g c = omega (arith, IsSpread-count g.K.Hash.hash_input c.args.from.now c.loop-i.to.items c.loop-i.filled c.loop-i.invariant.2, c.loop-i.invariant.1, c.requires.few, c.move_in-filled.ensures.one)

pub loop-i-preserved : goal.loop-i-preserved
loop-i-preserved g c =
    let within : c.loop-i.i < length c.args.from.now = omega (arith, c.loop-i-test.true) in
    let here = slice_get_read c.args.from.now (length c.args.from.now) c.loop-i.i c.index-from-i.result refl within c.index-from-i.is in (
      omega (arith, within),
      c.move_in-filled.ensures.length ∙ c.loop-i.invariant.1,
      c.move_in-filled.ensures.spread c.args.from.now c.loop-i.i c.loop-i.filled here c.loop-i.invariant.2,
    )
