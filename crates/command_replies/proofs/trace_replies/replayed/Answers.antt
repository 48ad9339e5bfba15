use Rattle.std.proofs.Common.{◌≡◌, None, refl, subst}
use Rattle.command_replies.specs.Replayed.{replay_line}
use Rattle.trace_files.specs.Trace.{Trace}
use Rattle.command_replies.proofs.TraceReplies.{judged_reply}
use Rattle.command_replies.proofs.trace_replies.replayed.Goals as goal

pub returns : goal.returns
returns c = λ m limit bytes spelled is.
    judged_reply m limit bytes c.args.file.now c.args.judged
    (record { text = c.in_ok-judged_line.field-0; ending = c.ending_of.result; saves = None })
    spelled is
    (subst (λ (t : Trace). c.in_ok-judged_line.field-0.items ≡ replay_line t.spec c.args.judged)
    c.file.view_is c.in_ok-judged_line.ensures) c.ending_of.ensures refl
