use Rattle.std.proofs.Common.{◌≡◌, None, refl, subst}
use Rattle.command_replies.specs.Replayed.{unanswered_line}
use Rattle.trace_files.specs.Trace.{Trace}
use Rattle.smv_texts.specs.declared.ending.Ending.TheVariants.{Undecided}
use Rattle.command_replies.proofs.TraceReplies.{left_reply}
use Rattle.command_replies.proofs.trace_replies.unanswered_trace.Goals as goal

pub returns : goal.returns
returns c = λ m bytes spelled of_limit.
    let held = c.in_ok-vec.field-0 in
    left_reply m c.args.limit bytes c.args.file.now held c.args.held
    (record { text = c.in_ok-limit_line.field-0; ending = Undecided held; saves = None }) spelled
    of_limit c.in_ok-vec.ensures.items
    (subst (λ (t : Trace). c.in_ok-limit_line.field-0.items ≡ unanswered_line t.spec c.args.limit)
    c.file.view_is c.in_ok-limit_line.ensures) refl refl
