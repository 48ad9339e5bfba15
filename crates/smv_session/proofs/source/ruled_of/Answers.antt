use Rattle.std.proofs.Common.{sym, subst}
use Rattle.smv_session.specs.Source.{HasRuled}
use Rattle.smv_session.proofs.RefusedLemmas.{ruled, breaks_rule}
use Rattle.smv_session.proofs.source.ruled_of.Goals as goal

pub returns-in-Ok-clause-ruled : goal.returns-in-Ok-clause-ruled
returns-in-Ok-clause-ruled c = λ bytes has. subst (HasRuled bytes) (sym c.in-Ok.ensures.kept) (ruled bytes c.args.flat has c.in-Ok.ensures.ok)

pub returns-in-Err-clause-refused : goal.returns-in-Err-clause-refused
returns-in-Err-clause-refused c = λ bytes has. breaks_rule bytes c.args.flat c.in-Err.refusal has c.in-Err.ensures.refused
