use Rattle.std.proofs.Common.{None, refl}
use Rattle.smv_texts.specs.declared.ending.Ending.TheVariants.{Undecided}
use Rattle.command_replies.proofs.DelayReplies.{unknown_reply}
use Rattle.command_replies.proofs.delay_replies.unknown_delays.Goals as goal

pub returns : goal.returns
returns c = λ m of_limit.
    let held = c.in_ok-vec.field-0 in
    unknown_reply m c.args.limit c.args.from c.args.to held c.args.held
    (record { text = c.in_ok-unknown_text.field-0; ending = Undecided held; saves = None })
    of_limit c.in_ok-vec.ensures.items c.in_ok-unknown_text.ensures refl refl
