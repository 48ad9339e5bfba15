use Rattle.std.proofs.Common.{subst, Some}
use Rattle.smv_names.specs.Written.{plain_path}
use Rattle.smv_names.specs.Mentions.{plain_mention}
use Rattle.smv_names.specs.Targets.{Resolves}
use Rattle.smv_names.proofs.CheckLemmas.{known_by}
use Rattle.smv_names.proofs.checks.is_known.Goals as goal

pub returns-in-Some : goal.returns-in-Some
returns-in-Some c = λ p s targets at.
    let q = plain_path c.args.mention.now.path.now in
    let found : Resolves p s q (Some c.in-Some.target) = subst (λ z. Resolves p s q z) c.in-Some.is (c.in_ok-target.ensures p s targets at) in
    known_by p s (plain_mention c.args.mention.now) found.0 c.suits.result found.2 (c.suits.ensures p found.0 found.1)
