use Rattle.std.proofs.Common.{refl}
use Rattle.rank_extract.proofs.Adding.{nothing_added}
use Rattle.rank_extract.proofs.Holders.{entry_kind}
use Rattle.rank_extract.proofs.entries.add_node.Goals as goal

pub returns-in-Connected : goal.returns-in-Connected
returns-in-Connected g c = rw c.in-Connected.is (nothing_added entry_kind (g.S.StateSets.seen c.args.sets.now) c.args.entries.now.items c.args.entries.now.items tt refl)
