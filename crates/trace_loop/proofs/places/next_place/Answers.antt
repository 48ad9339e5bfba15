use Rattle.std.proofs.Common.{◌+◌, arith}
use Rattle.trace_loop.proofs.MemberPlaces.{after_last}
use Rattle.trace_loop.proofs.places.next_place.Goals as goal

pub returns-else-i-members-clause-same : goal.returns-else-i-members-clause-same
returns-else-i-members-clause-same c = after_last c.args.lasso.now (c.args.i + 1) c.stem_count.result (omega arith) c.stem_count.ensures
