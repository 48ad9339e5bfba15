use Rattle.std.proofs.Common.{None, refl}
use Rattle.command_replies.proofs.ProofReplies.{answered_reply, report_of_file}
use Rattle.command_replies.proofs.proof_replies.rechecked.Goals as goal

pub returns : goal.returns
returns c = λ m limit bytes spelled all.
    answered_reply m limit bytes c.args.file.now c.args.answers
    (record { text = c.in_ok-text.text; ending = c.into_ending.result; saves = None }) spelled all
    (report_of_file c.args.file.now _ _ _ _ _ c.file.view_is c.deref.ensures.value
    c.deref-2.ensures.value c.in_ok-text.ensures)
    (c.into_ending.ensures m limit _ _ all) refl
