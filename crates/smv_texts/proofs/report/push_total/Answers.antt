use Rattle.std.proofs.Common.{◌∙◌, ap, ℕ, ◌++◌, codes, decimal}
use Rattle.std.proofs.lemmas.Result.{on_ok_weaker}
use Rattle.smv_texts.proofs.ReportLemmas.{total}
use Rattle.smv_texts.proofs.report.push_total.Goals as goal

pub returns : goal.returns
returns c =
    let second = c.in_ok-push_count-2.ensures ∙ ap (λ (n : ℕ). c.push_count.new.text ++ codes " true " ++ decimal n) c.true_count.ensures in
    let third = c.in_ok-push_count-3.ensures ∙ ap (λ (n : ℕ). c.push_count-2.new.text ++ codes " false " ++ decimal n) c.false_count.ensures in
    let fourth = c.in_ok-push_count-4.ensures ∙ ap (λ (n : ℕ). c.push_count-3.new.text ++ codes " unknown " ++ decimal n) c.unknown_count.ensures in
    on_ok_weaker c.push.result
    (λ last. total c.args.findings.now c.args.text.now _ _ _ _ _ c.in_ok-push_count.ensures second third fourth last) c.push.ensures
