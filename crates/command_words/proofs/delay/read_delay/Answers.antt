use Rattle.std.proofs.Common.{map, string_bytes, subst, sym}
use Rattle.command_words.specs.Words.{HasLimits}
use Rattle.command_words.proofs.ClapAnswers.{delay_found, delay_refused}
use Rattle.command_words.proofs.Ranges.{delay_limits}
use Rattle.command_words.proofs.delay.read_delay.Goals as goal

pub returns-in-Some-clause-command : goal.returns-in-Some-clause-command
returns-in-Some-clause-command c =
    delay_found c.args.words.now _ _ c.in_ok-matches.ensures c.in_ok-delay_words.ensures
    c.in-Some.matches _ c.in-Some.is c.delay_command.ensures

pub returns-in-Some-clause-limits : goal.returns-in-Some-clause-limits
returns-in-Some-clause-limits c =
    subst HasLimits (sym (returns-in-Some-clause-command c))
    (delay_limits (map string_bytes c.args.words.now))

pub returns-in-None-clause-command : goal.returns-in-None-clause-command
returns-in-None-clause-command c =
    delay_refused c.args.words.now _ _ c.in_ok-matches.ensures c.in_ok-delay_words.ensures
    c.in-None.is
