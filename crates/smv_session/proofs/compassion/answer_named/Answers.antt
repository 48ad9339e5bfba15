use Rattle.command_words.specs.Listed.{pairs_in}
use Rattle.std.proofs.Common.{ap}
use Rattle.std.proofs.lemmas.Result.{IfOk-weaker}
use Rattle.command_words.specs.Asked.{job_asked, work_asked}
use Rattle.smv_session.proofs.Numbers.{names_given}
use Rattle.smv_session.proofs.Tried.{left_strong_reply, strong_reply}
use Rattle.smv_session.proofs.compassion.answer_named.Goals as goal

pub find_for-requires-clause-names : goal.find_for-requires-clause-names
find_for-requires-clause-names c =
    names_given (work_asked c.args.work).job c.args.model.now (pairs_in c.args.pairs.now)
    (ap job_asked c.requires.job) c.requires.names

pub returns-in-Ok : goal.returns-in-Ok
returns-in-Ok c = λ contents bytes ruled.
    IfOk-weaker c.find_for.result _ _
    (λ reply done. strong_reply (work_asked c.args.work) contents bytes c.args.model.now reply ruled
    c.in-Ok.ensures.few (pairs_in c.args.pairs.now) (ap job_asked c.requires.job) c.requires.names
    c.in-Ok.ensures.faultless done) c.find_for.ensures

pub returns-in-Ok-held_of : goal.returns-in-Ok-held_of
returns-in-Ok-held_of c = λ contents bytes ruled.
    IfOk-weaker c.unknown_strong.result _ _
    (λ reply left. left_strong_reply (work_asked c.args.work) contents bytes c.args.model.now reply
    ruled c.in-Ok-held_of.ensures.few (pairs_in c.args.pairs.now) (ap job_asked c.requires.job)
    c.requires.names left)
    (c.unknown_strong.ensures c.args.model.now c.in-Ok-held_of.ensures.held)
