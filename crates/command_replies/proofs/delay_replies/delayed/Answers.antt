use Rattle.std.proofs.Common.{None, refl}
use Rattle.smv_texts.specs.declared.ending.Ending.TheVariants.{Clear}
use Rattle.command_replies.specs.SeenDelays.{delay_of}
use Rattle.command_replies.proofs.DelayReplies.{delays_reply}
use Rattle.command_replies.proofs.delay_replies.delayed.Goals as goal

pub returns : goal.returns
returns c = λ m limit are.
    delays_reply m limit c.args.from c.args.to (delay_of c.args.shortest) (delay_of c.args.longest)
    (record { text = c.in_ok-delays_text.field-0; ending = Clear; saves = None }) are
    c.in_ok-delays_text.ensures refl refl
