use Rattle.std.proofs.Common.{ap, refl, subst, sym}
use Rattle.command_words.specs.Asked.{job_asked, work_asked}
use Rattle.command_words.specs.Words.{Job, Recheck}
use Rattle.command_replies.specs.Rechecked.{Rechecked}
use Rattle.smv_session.specs.Jobs.{Undecides}
use Rattle.smv_session.proofs.Tried.{names_none, of_recheck, second_result}
use Rattle.smv_session.proofs.seconds.answer_rechecked.Goals as goal

pub returns-in-Ok-clause-foreseen : goal.returns-in-Ok-clause-foreseen
returns-in-Ok-clause-foreseen g c = λ bytes ruled.
    let w = work_asked c.args.work in
    second_result (Rechecked c.args.model.now c.args.work.limit) w _ bytes c.args.model.now
    c.args.proofs.now _ _ ruled c.in-Ok.ensures.few c.in-Ok.ensures.faultless
    (of_recheck w c.args.model.now _ c.args.proofs.now (ap job_asked c.requires.job))
    c.answer_proofs.result c.answer_proofs.ensures.foreseen
