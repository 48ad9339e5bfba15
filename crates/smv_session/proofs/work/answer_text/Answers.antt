use Rattle.std.proofs.Common.{Ok, refl}
use Rattle.command_words.specs.Asked.{work_asked}
use Rattle.smv_texts.specs.Told.{told}
use Rattle.smv_session.proofs.Heard.{refused_reply}
use Rattle.smv_session.proofs.work.answer_text.Goals as goal

pub returns-in_ok-refuse-in-Err-clause-foreseen : goal.returns-in_ok-refuse-in-Err-clause-foreseen
returns-in_ok-refuse-in-Err-clause-foreseen g c =
    let w = work_asked c.args.work in
    record {
      answer = refused_reply w (g.F.Files.contents c.args.files.now) c.args.text.now (told c.in-Err.refusal) (Ok c.in_ok-refuse-in-Err.field-0) (c.in-Err.ensures.refused w.job) c.in_ok-refuse-in-Err.ensures;
      quiet = refl;
    }
