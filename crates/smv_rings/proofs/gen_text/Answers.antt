use Rattle.smv_rings.proofs.Lines.{next_line}
use Rattle.smv_rings.proofs.gen_text.Goals as goal

pub loop-before-preserved : goal.loop-before-preserved
loop-before-preserved c = next_line _ _ _ _ _ c.loop-before-test.true c.loop-before.invariant c.in_ok-push_process.ensures
