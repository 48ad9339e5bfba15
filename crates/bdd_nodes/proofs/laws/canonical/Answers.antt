use Rattle.bdd_nodes.proofs.Canonical.{canonical}
use Rattle.bdd_nodes.proofs.laws.canonical.Goals as goal

pub returns : goal.returns
returns c =
    let s = c.args.store.now in
    canonical s.levels s.nodes.keys s.good c.args.r c.args.q c.requires.has_r c.requires.has_q c.requires.same
