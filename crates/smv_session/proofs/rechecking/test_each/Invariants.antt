use Rattle.std.proofs.Common.{take}
use Rattle.command_replies.specs.Answered.{AreAnswered}
use Rattle.proof_checker.specs.Ready.{IsKept}
use Rattle.smv_session.proofs.rechecking.test_each.Given as goal

-- what is answered to the blocks so far, and the sets that are kept
abbrev pub invariant-loop-block : goal.invariant-loop-block
invariant-loop-block l = AreAnswered l.model l.limit l.file.order (take l.block-index l.file.blocks) l.answers
    × IsKept l.model l.file.order l.limit l.kept
