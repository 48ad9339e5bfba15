use Rattle.std.proofs.Common.{Err, ap, subst}
use Rattle.command_replies.specs.Rechecked.{Rechecked}
use Rattle.smv_texts.specs.Replies.{IsReply}
use Rattle.std.proofs.lemmas.Result.{IfOk-weaker}
use Rattle.smv_session.proofs.Heard.{told_second}
use Rattle.smv_session.proofs.seconds.answer_proofs.Goals as goal

pub returns-in-Err-clause-foreseen : goal.returns-in-Err-clause-foreseen
returns-in-Err-clause-foreseen g c =
    let load = c.in-Err.ensures in
    IfOk-weaker c.answer_proof_fault.result _ _
    (λ foreseen told. told_second (Rechecked c.args.model.now c.args.limit) c.args.proofs.now _ _ _ foreseen c.in-Err.fault load.counts
    (λ taken is. load.too_long taken (ap Err is)) (λ taken is. load.was_there taken (ap Err is)) (λ is. load.not_there (ap Err is)) told)
    (c.answer_proof_fault.ensures c.args.model.now c.args.limit)

pub returns-in_ok-recheck-in-Ok-clause-foreseen : goal.returns-in_ok-recheck-in-Ok-clause-foreseen
returns-in_ok-recheck-in-Ok-clause-foreseen g c = record {
  bytes = c.in-Ok.bytes.items;
  there = c.in-Ok.ensures.loaded;
  answer = subst (λ bytes. IsReply (Rechecked c.args.model.now c.args.limit bytes) c.in_ok-recheck-in-Ok.field-0) c.deref.ensures.value c.in_ok-recheck-in-Ok.ensures;
  quiet = c.in-Ok.ensures.counts;
}
