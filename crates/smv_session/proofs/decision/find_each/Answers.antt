use Rattle.smv_session.proofs.decision.find_each.Goals as goal

pub try_each-requires-clause-begun : goal.try_each-requires-clause-begun
try_each-requires-clause-begun c = c.in_ok-found.ensures c.args.limit
