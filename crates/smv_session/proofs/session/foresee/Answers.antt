use Rattle.std.proofs.Common.{◌∙◌, None, refl, sym, ap, subst}
use Rattle.command_words.specs.Asked.{asked}
use Rattle.command_words.specs.Words.{Command}
use Rattle.smv_session.specs.Foreseen.{IsAnswer}
use Rattle.smv_texts.specs.declared.ending.Ending.TheVariants as endings
use Rattle.smv_session.proofs.Heard.{print_answer, usage_answer}
use Rattle.smv_session.proofs.session.foresee.Goals as goal

pub returns-in_ok-new-in-Usage-clause-foreseen : goal.returns-in_ok-new-in-Usage-clause-foreseen
returns-in_ok-new-in-Usage-clause-foreseen g c =
    let reply = c.in_ok-new-in-Usage in
    subst (λ (command : Command). IsAnswer command (g.F.Files.contents c.args.files.now) (g.F.Files.faults c.args.files.now) (g.F.Files.faults c.args.files.now) reply.field-0)
    (sym (ap asked c.in-Usage.is) ∙ c.in_ok-read_words.ensures.command)
    (usage_answer _ _ _ reply.field-0 refl (reply.ensures.text ∙ c.usage_text.ensures) reply.ensures.ending reply.ensures.saves)

pub returns-in_ok-gen_text-in-Print-clause-foreseen :
    goal.returns-in_ok-gen_text-in-Print-clause-foreseen
returns-in_ok-gen_text-in-Print-clause-foreseen g c =
    subst (λ (command : Command). IsAnswer command (g.F.Files.contents c.args.files.now) (g.F.Files.faults c.args.files.now) (g.F.Files.faults c.args.files.now) (record { text = c.in_ok-gen_text-in-Print.field-0; ending = endings.Clear; saves = None }))
    (sym (ap asked c.in-Print.is) ∙ c.in_ok-read_words.ensures.command)
    (print_answer c.in-Print.n _ _ _ (record { text = c.in_ok-gen_text-in-Print.field-0; ending = endings.Clear; saves = None }) refl c.in_ok-gen_text-in-Print.ensures refl refl)
