use Rattle.std.proofs.Common.{inl, inr, None, refl}
use Rattle.smv_texts.specs.declared.ending.Ending.TheVariants.{ProofRefused}
use Rattle.command_replies.proofs.ProofReplies.{refused_reply}
use Rattle.command_replies.proofs.proof_replies.refuse_proofs.Goals as goal

pub returns : goal.returns
returns c = λ m limit bytes given.
    elim given [
      | inl memory ↦ absurd (c.in_ok-refusal_text.ensures.memory memory)
      | inr applies ↦ refused_reply m limit bytes c.args.refusal
          (record { text = c.in_ok-refusal_text.field-0; ending = ProofRefused; saves = None })
          applies c.in_ok-refusal_text.ensures.told refl refl
    ]
