use Rattle.std.proofs.Common.{map}
use Rattle.smv_names.specs.Mentions.{plain_mention}
use Rattle.smv_names.proofs.RuleLemmas.{paths_checked}
use Rattle.smv_names.proofs.CheckLemmas.{answer_refused, answer_silent, answer_sound}
use Rattle.smv_names.proofs.checks.check_paths.Goals as goal

pub returns-clause-sound : goal.returns-clause-sound
returns-clause-sound c = λ p s targets at numbers.
    let known = c.in_ok-check_known.ensures p s targets at in
    answer_sound p s (map plain_mention c.args.mentions.now) c.check_indexes.result (paths_checked p s (map plain_mention c.args.mentions.now) c.check_indexes.result known (c.check_indexes.ensures p s targets at numbers known))

pub returns-clause-silent : goal.returns-clause-silent
returns-clause-silent c = λ p s targets at numbers.
    let known = c.in_ok-check_known.ensures p s targets at in
    answer_silent p s (map plain_mention c.args.mentions.now) c.check_indexes.result (paths_checked p s (map plain_mention c.args.mentions.now) c.check_indexes.result known (c.check_indexes.ensures p s targets at numbers known))

pub returns-clause-refused : goal.returns-clause-refused
returns-clause-refused c = λ p s targets at numbers.
    let known = c.in_ok-check_known.ensures p s targets at in
    answer_refused p s (map plain_mention c.args.mentions.now) c.check_indexes.result (paths_checked p s (map plain_mention c.args.mentions.now) c.check_indexes.result known (c.check_indexes.ensures p s targets at numbers known))
