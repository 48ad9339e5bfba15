use Rattle.std.proofs.lemmas.Result.{on_ok_weaker}
use Rattle.command_replies.proofs.ReportLemmas.{total}
use Rattle.command_replies.proofs.proof_report.push_total.Goals as goal

pub returns : goal.returns
returns c =
    on_ok_weaker c.push.result
    (λ last. total c.args.answers.now _ _ _ c.args.text.now _ _ _ _ _
    c.accepted_count.ensures c.rejected_count.ensures c.unanswered_count.ensures
    c.in_ok-push_numbered.ensures c.in_ok-push_numbered-2.ensures
    c.in_ok-push_numbered-3.ensures c.in_ok-push_numbered-4.ensures last) c.push.ensures
