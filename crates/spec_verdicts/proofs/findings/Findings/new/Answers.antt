use Rattle.std.proofs.Common.{◌∙◌}
use Rattle.proof_text.specs.Lines.{header_lines, text_of}
use Rattle.proof_text.specs.Written.{own_order}
use Rattle.smv_texts.specs.Replies.{saved_of}
use Rattle.spec_verdicts.proofs.ReplyLemmas.{begins_with, header_under, none_found}
use Rattle.spec_verdicts.proofs.findings.Findings.new.Goals as goal

pub returns : goal.returns
returns c = λ limit.
    let m = c.args.model.now in
    none_found m limit _ (record { findings = c.new.result; held = c.new-2.result; saves = c.in_ok-header.field-0 }) c.new.ensures.items c.new-2.ensures.items
    (begins_with m _ (saved_of c.in_ok-header.field-0) c.written_law.ensures (c.in_ok-header.ensures ∙ header_under (text_of (header_lines m (own_order m))) (λ name. name.now) c.args.proofs))
