use Rattle.std.proofs.Common.{map, string_bytes, subst, sym}
use Rattle.command_words.specs.Words.{HasLimits}
use Rattle.command_words.proofs.ClapAnswers.{strong_found, strong_refused}
use Rattle.command_words.proofs.Ranges.{strong_limits}
use Rattle.command_words.proofs.strong.read_strong.Goals as goal

pub returns-in-Some-clause-command : goal.returns-in-Some-clause-command
returns-in-Some-clause-command c =
    strong_found c.args.words.now _ _ c.in_ok-matches.ensures c.in_ok-strong_words.ensures
    c.in-Some.matches _ c.in-Some.is c.strong_command.ensures

pub returns-in-Some-clause-limits : goal.returns-in-Some-clause-limits
returns-in-Some-clause-limits c =
    subst HasLimits (sym (returns-in-Some-clause-command c))
    (strong_limits (map string_bytes c.args.words.now))

pub returns-in-None-clause-command : goal.returns-in-None-clause-command
returns-in-None-clause-command c =
    strong_refused c.args.words.now _ _ c.in_ok-matches.ensures c.in_ok-strong_words.ensures
    c.in-None.is
