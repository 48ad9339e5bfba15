use Rattle.std.proofs.Common.{refl}
use Rattle.command_replies.specs.declared.answers.Answer.TheVariants.{Rejected}
use Rattle.command_replies.proofs.AnsweredLemmas.{decided_more}
use Rattle.command_replies.proofs.answers.Answers.reject.Goals as goal

pub returns : goal.returns
returns c = λ m limit order blocks b all is.
    decided_more m limit order blocks b (Rejected c.args.line) c.args.self.now
    (record { answers = c.push.new.self; held = c.args.self.now.held }) all
    c.in_ok-push.ensures.items is refl refl
