use Rattle.std.proofs.Common.{refl}
use Rattle.block_proofs.proofs.Marked.{marked_more}
use Rattle.block_proofs.proofs.marking.mark_list.Goals as goal

pub loop-number-preserved : goal.loop-number-preserved
loop-number-preserved c = marked_more (λ xs. xs) (λ xs ys. refl) c.args.list.now c.loop-number.number-index 0 _ c.loop-number-test.true refl c.loop-number.invariant c.mark.ensures
