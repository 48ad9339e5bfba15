use Rattle.std.proofs.Common.{◌∙◌, take, ap, length, subst, sym}
use Rattle.proof_checker.specs.Ready.{IsKept}
use Rattle.proof_text.specs.File.{File}
use Rattle.smv_session.proofs.BlockPlaces.{answered_more, answer_in}
use Rattle.smv_session.proofs.rechecking.test_each.Goals as goal

pub loop-block-init : goal.loop-block-init
loop-block-init c = (c.requires.begun, c.requires.kept)

pub test-requires-clause-kept : goal.test-requires-clause-kept
test-requires-clause-kept c =
    subst (λ order. IsKept c.args.model.now order c.args.limit c.loop-block.kept) (sym (c.deref.ensures.value ∙ ap (λ (f : File). f.order) c.file.view_is)) c.loop-block.invariant.1

pub loop-block-preserved : goal.loop-block-preserved
loop-block-preserved c =
    let m = c.args.model.now in
    let order = c.args.file.now.order in
    let blocks = c.args.file.now.blocks in
    let i = c.loop-block.block-index in
    let b = c.block-item.result in (
      answered_more m c.args.limit order blocks c.deref-block-items.result.now (c.deref-block-items.ensures.value ∙ ap (λ (f : File). f.blocks) c.file.view_is) i b c.block-item.is c.loop-block-test.true c.add.new.answers
          (c.in_ok-add.ensures m order (take i blocks) b c.loop-block.invariant.0
          (answer_in m c.args.limit order c.deref.result.now b c.in_ok-answer.answer (c.deref.ensures.value ∙ ap (λ (f : File). f.order) c.file.view_is) c.in_ok-answer.ensures.answer)),
      subst (λ o. IsKept m o c.args.limit c.test.new.kept) (c.deref.ensures.value ∙ ap (λ (f : File). f.order) c.file.view_is) c.test.ensures.kept,
    )
