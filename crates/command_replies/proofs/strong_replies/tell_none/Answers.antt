use Rattle.std.proofs.Common.{None, refl}
use Rattle.smv_texts.specs.declared.ending.Ending.TheVariants.{Failed}
use Rattle.command_replies.specs.SeenRows.{certificate_of}
use Rattle.command_replies.proofs.StrongReplies.{none_reply}
use Rattle.command_replies.proofs.strong_replies.tell_none.Goals as goal

pub returns : goal.returns
returns c = λ m limit numbers is.
    none_reply m limit numbers c.args.certificate.now.nodes.items
    (certificate_of c.args.certificate.now)
    (record { text = c.in_ok-no_text.field-0; ending = Failed; saves = None }) is
    c.in_ok-no_text.ensures refl refl
