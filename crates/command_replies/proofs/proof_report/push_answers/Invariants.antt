use Rattle.std.proofs.Common.{◌≡◌, ◌++◌, drop, length, map}
use Rattle.command_replies.specs.Answered.{answer_of}
use Rattle.command_replies.specs.ProofReport.{answer_lines}
use Rattle.command_replies.proofs.proof_report.push_answers.Given as goal

-- what is there, and the lines of the blocks that are left
abbrev pub invariant-loop-block : goal.invariant-loop-block
invariant-loop-block l =
    l.text ++ answer_lines (drop (length l.yielded) l.blocks)
    (map answer_of (drop (length l.yielded) l.answers))
    ≡ l.initial.text ++ answer_lines l.blocks (map answer_of l.answers)
