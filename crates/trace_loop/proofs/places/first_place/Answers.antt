use Rattle.std.proofs.Common.{arith}
use Rattle.trace_loop.proofs.MemberPlaces.{first_of}
use Rattle.trace_loop.proofs.places.first_place.Goals as goal

pub returns : goal.returns
returns c = first_of c.args.lasso.now c.requires.loops c.args.i c.min.result c.requires.member (omega (arith, c.min.ensures))
