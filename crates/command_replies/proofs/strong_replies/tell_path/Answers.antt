use Rattle.std.proofs.Common.{None, refl}
use Rattle.smv_texts.specs.declared.ending.Ending.TheVariants.{Clear}
use Rattle.command_replies.proofs.StrongReplies.{path_reply}
use Rattle.command_replies.proofs.strong_replies.tell_path.Goals as goal

pub returns : goal.returns
returns c = λ limit numbers is.
    path_reply c.args.model.now limit numbers c.args.path.now
    (record { text = c.in_ok-yes_text.field-0; ending = Clear; saves = None }) is
    c.in_ok-yes_text.ensures refl refl
