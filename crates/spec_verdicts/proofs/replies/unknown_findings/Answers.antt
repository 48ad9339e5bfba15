use Rattle.std.proofs.Common.{◌∙◌, ◌++◌, ◌∷◌, [], List, length, ap, arith}
use Rattle.smv_texts.specs.declared.outcome.Finding.{Finding}
use Rattle.spec_verdicts.proofs.ReplyLemmas.{one_more, unknown, unknown_all}
use Rattle.spec_verdicts.proofs.replies.unknown_findings.Goals as goal

pub loop-init : goal.loop-init
loop-init c = c.new-findings.ensures.items

pub loop-preserved : goal.loop-preserved
loop-preserved c =
    c.in_ok-push.ensures.items ∙ ap (λ (fs : List Finding). fs ++ unknown c.args.limit ∷ []) c.loop.invariant ∙ one_more c.args.limit c.loop.index

pub returns : goal.returns
returns c =
    let specs = ap length c.specs-specs.ensures in
    unknown_all c.args.model.now c.args.limit c.loop.index c.loop.findings.items (omega (arith, specs, c.loop-test.false, c.loop.auto.index-end)) c.loop.invariant
