use Rattle.std.proofs.Common.{◌∙◌, List, map, ap, refl}
use Rattle.proof_text.specs.Lines.{header_lines, text_of}
use Rattle.proof_text.specs.Written.{own_order}
use Rattle.smv_texts.specs.Outcomes.{finding_of}
use Rattle.smv_texts.specs.Replies.{saved_of}
use Rattle.smv_texts.specs.Report.{report}
use Rattle.smv_texts.specs.declared.ending.Ending.TheVariants.{Undecided}
use Rattle.smv_texts.specs.declared.outcome.Finding.{Finding}
use Rattle.spec_verdicts.proofs.ReplyLemmas.{begins_with, header_under, unknown_reply}
use Rattle.spec_verdicts.proofs.replies.all_unknown.Goals as goal

pub returns : goal.returns
returns c =
    let m = c.args.model.now in
    unknown_reply m c.args.limit _ c.in_ok-vec.field-0 c.args.held (map finding_of c.in_ok-findings.findings.items)
    (record { text = c.in_ok-text.text; ending = Undecided c.in_ok-vec.field-0; saves = c.in_ok-saves.saves }) c.in_ok-findings.ensures
    (c.in_ok-text.ensures ∙ ap (λ (fs : List Finding). report m (map finding_of fs)) c.deref.ensures.value)
    refl c.in_ok-vec.ensures.items c.requires
    (begins_with m _ (saved_of c.in_ok-saves.saves) c.written_law.ensures (c.in_ok-saves.ensures ∙ header_under (text_of (header_lines m (own_order m))) (λ name. name.now) c.args.proofs))
