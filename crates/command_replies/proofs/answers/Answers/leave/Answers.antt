use Rattle.std.proofs.Common.{refl}
use Rattle.command_replies.specs.declared.answers.Answer.TheVariants.{Unanswered}
use Rattle.command_replies.proofs.AnsweredLemmas.{left_more}
use Rattle.command_replies.proofs.answers.Answers.leave.Goals as goal

pub returns : goal.returns
returns c = λ m order blocks b all of_limit below.
    left_more m c.args.limit order blocks b (Unanswered c.args.limit) c.args.self.now
    (record { answers = c.push.new.self; held = c.push-2.new.self }) all c.in_ok-push.ensures.items
    c.args.held (refl, below) refl of_limit c.in_ok-push-2.ensures.items
