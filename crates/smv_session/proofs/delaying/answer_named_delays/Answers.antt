use Rattle.std.proofs.Common.{ap}
use Rattle.std.proofs.lemmas.Result.{IfOk-weaker}
use Rattle.command_words.specs.Asked.{job_asked, work_asked}
use Rattle.smv_session.proofs.Numbers.{names_from, names_to}
use Rattle.smv_session.proofs.Tried.{delayed_reply, left_reply}
use Rattle.smv_session.proofs.delaying.answer_named_delays.Goals as goal

pub delay-requires-clause-from : goal.delay-requires-clause-from
delay-requires-clause-from c =
    names_from (work_asked c.args.work).job c.args.model.now c.args.from c.args.to
    (ap job_asked c.requires.job) c.requires.names

pub delay-requires-clause-to : goal.delay-requires-clause-to
delay-requires-clause-to c =
    names_to (work_asked c.args.work).job c.args.model.now c.args.from c.args.to
    (ap job_asked c.requires.job) c.requires.names

pub returns-in-Ok : goal.returns-in-Ok
returns-in-Ok c = λ contents bytes ruled.
    IfOk-weaker c.delay.result _ _
    (λ reply done. delayed_reply (work_asked c.args.work) contents bytes c.args.model.now reply ruled
    c.in-Ok.ensures.few c.args.from c.args.to (ap job_asked c.requires.job) c.requires.names
    c.in-Ok.ensures.faultless done) c.delay.ensures

pub returns-in-Ok-held_of : goal.returns-in-Ok-held_of
returns-in-Ok-held_of c = λ contents bytes ruled.
    IfOk-weaker c.unknown_delays.result _ _
    (λ reply left. left_reply (work_asked c.args.work) contents bytes c.args.model.now reply ruled
    c.in-Ok-held_of.ensures.few c.args.from c.args.to (ap job_asked c.requires.job) c.requires.names left)
    (c.unknown_delays.ensures c.args.model.now c.in-Ok-held_of.ensures.held)
