use Rattle.std.proofs.lemmas.Result.{IfOk-weaker}
use Rattle.command_words.specs.Asked.{work_asked}
use Rattle.smv_session.proofs.Tried.{unanswered_reply}
use Rattle.smv_session.proofs.seconds.answer_no_relation.Goals as goal

pub returns-in-Ok : goal.returns-in-Ok
returns-in-Ok c = λ contents bytes ruled.
    IfOk-weaker c.unanswered_model.result _ _
    (λ reply left. unanswered_reply (work_asked c.args.work) contents bytes c.args.model.now reply
    ruled c.in-Ok.ensures.few c.requires.names c.requires.undecides left)
    (c.unanswered_model.ensures c.args.model.now c.in-Ok.ensures.held)
