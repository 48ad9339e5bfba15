use Rattle.std.proofs.Common.{ap, refl, subst, sym}
use Rattle.command_words.specs.Asked.{job_asked, work_asked}
use Rattle.command_words.specs.Words.{Job, Replay}
use Rattle.command_replies.specs.Replayed.{Replayed}
use Rattle.smv_session.specs.Jobs.{Undecides}
use Rattle.smv_session.proofs.Tried.{names_none, of_replay, second_result}
use Rattle.smv_session.proofs.seconds.answer_replayed.Goals as goal

pub returns-in-Ok-clause-foreseen : goal.returns-in-Ok-clause-foreseen
returns-in-Ok-clause-foreseen g c = λ bytes ruled.
    let w = work_asked c.args.work in
    second_result (Replayed c.args.model.now c.args.work.limit) w _ bytes c.args.model.now
    c.args.trace.now _ _ ruled c.in-Ok.ensures.few c.in-Ok.ensures.faultless
    (of_replay w c.args.model.now _ c.args.trace.now (ap job_asked c.requires.job))
    c.answer_trace.result c.answer_trace.ensures.foreseen
