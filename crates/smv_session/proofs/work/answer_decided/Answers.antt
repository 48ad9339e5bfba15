use Rattle.std.proofs.Common.{ap, refl}
use Rattle.command_words.specs.Asked.{job_asked, work_asked}
use Rattle.smv_session.proofs.Tried.{decided_reply, names_none}
use Rattle.smv_session.proofs.work.answer_decided.Goals as goal

pub returns-in-Ok : goal.returns-in-Ok
returns-in-Ok c = λ contents bytes ruled.
    decided_reply (work_asked c.args.work) contents bytes c.args.model.now c.in-Ok.reply ruled c.in-Ok.ensures.few _ (ap job_asked c.requires.job) c.in-Ok.ensures.decided

pub answer_stop-requires-clause-names : goal.answer_stop-requires-clause-names
answer_stop-requires-clause-names c =
    names_none (work_asked c.args.work).job _ c.args.model.now (ap job_asked c.requires.job) refl
