use Rattle.std.proofs.Common.{ap, Err}
use Rattle.std.proofs.lemmas.Result.{IfOk-weaker}
use Rattle.command_words.specs.Asked.{source_asked, work_asked}
use Rattle.smv_session.proofs.Heard.{told_fault}
use Rattle.smv_session.proofs.work.do_work.Goals as goal

pub returns-in-Err-clause-foreseen : goal.returns-in-Err-clause-foreseen
returns-in-Err-clause-foreseen g c =
    let load = c.in-Err.ensures in
    IfOk-weaker c.answer_fault.result _ _
    (λ foreseen told. told_fault (work_asked c.args.work) c.in-File.name.now _ _ _ foreseen c.in-Err.fault (ap source_asked c.in-File.is) load.counts
    (λ taken is. load.too_long taken (ap Err is)) (λ taken is. load.was_there taken (ap Err is)) (λ is. load.not_there (ap Err is)) told)
    c.answer_fault.ensures
