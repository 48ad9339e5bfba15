use Rattle.std.proofs.Common.{inl, inr, None, refl}
use Rattle.smv_texts.specs.declared.ending.Ending.TheVariants.{ProofRefused}
use Rattle.command_replies.proofs.TraceReplies.{refused_reply}
use Rattle.command_replies.proofs.trace_replies.refuse_trace.Goals as goal

pub returns : goal.returns
returns c = λ m limit bytes given.
    elim given [
      | inl memory ↦ absurd (c.in_ok-refusal_line.ensures.memory memory)
      | inr applies ↦ refused_reply m limit bytes c.args.refusal
          (record { text = c.in_ok-refusal_line.field-0; ending = ProofRefused; saves = None })
          applies c.in_ok-refusal_line.ensures.told refl refl
    ]
