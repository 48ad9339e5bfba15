use Rattle.bdd_nodes.proofs.Tables.{IsGood-empty}
use Rattle.bdd_nodes.proofs.store.Store.with_room.Goals as goal

pub invariant_of-result-clause-good : goal.invariant_of-result-clause-good
invariant_of-result-clause-good c = rw c.in_ok-with_capacity.ensures.empty (IsGood-empty c.args.levels)
