use Rattle.spec_verdicts.proofs.FoundLemmas.{few_findings}
use Rattle.smv_session.proofs.decision.check_all.Goals as goal

pub checked-requires : goal.checked-requires
checked-requires c = few_findings c.args.model.now c.args.limit _ c.in_ok-found.found c.in_ok-found.ensures

pub returns : goal.returns
returns c = c.checked.ensures c.args.limit _ c.in_ok-found.ensures
