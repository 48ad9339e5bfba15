use Rattle.std.proofs.Common.{◌∙◌, List, count_by, map, ap, refl, subst, sym}
use Rattle.smv_texts.specs.Outcomes.{finding_of}
use Rattle.smv_texts.specs.Report.{is_unknown, report}
use Rattle.smv_texts.specs.declared.outcome.Finding.{Finding}
use Rattle.spec_verdicts.specs.Checked.{EndsWith}
use Rattle.spec_verdicts.proofs.ReplyLemmas.{checked_reply}
use Rattle.spec_verdicts.proofs.replies.checked.Goals as goal

pub returns : goal.returns
returns c = λ limit proofs all.
    let found = c.args.found in
    let same = c.deref-2.ensures.value in
    checked_reply c.args.model.now limit proofs found (record { text = c.in_ok-text.text; ending = c.ending_of.result; saves = found.saves }) all
    (c.in_ok-text.ensures ∙ ap (λ (fs : List Finding). report c.args.model.now (map finding_of fs)) c.deref.ensures.value)
    (subst (λ (fs : List Finding). EndsWith c.args.model.now limit (map finding_of fs) c.ending_of.result) same
    (c.ending_of.ensures c.args.model.now limit all.held (all.count ∙ ap (λ (fs : List Finding). count_by is_unknown (map finding_of fs)) (sym same)))) refl
