use Rattle.rank_extract.proofs.Wanted.{own_added}
use Rattle.rank_extract.proofs.entries.add_own.Goals as goal

pub returns : goal.returns
returns g c = own_added c.args.fair.now c.args.nodes.now c.requires.fair c.requires.nodes c.args.number c.args.some c.args.signs.plus c.args.signs.minus c.in_ok-add_if.ensures c.add_if-2.ensures
