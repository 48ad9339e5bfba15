use Rattle.std.proofs.Common.{◌∙◌, ap, Some}
use Rattle.smv_names.proofs.walk.parameter.Goals as goal

pub returns-in-Decided : goal.returns-in-Decided
returns-in-Decided c p s x are is = c.known_outcome.ensures p c.args.targets.now.states s x (are.right c.args.at c.in-Decided.known (c.get.ensures ∙ ap Some c.in-Decided.is) s x is)
