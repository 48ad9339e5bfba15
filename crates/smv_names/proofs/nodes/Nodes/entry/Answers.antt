use Rattle.std.proofs.Common.{refl, ◌-◌}
use Rattle.smv_names.proofs.NodeLemmas.{read_at}
use Rattle.smv_names.proofs.PlaceLemmas.{placed}
use Rattle.smv_names.proofs.nodes.Nodes.entry.Goals as goal

pub returns : goal.returns
returns c = λ p are below.
    placed p c.args.self.now c.args.node c.home-i.result (c.args.node - c.index.result.now) c.index.result.now are (c.home-i.ensures.between p are below) c.home-i.ensures.inside
    (read_at c.args.self.now.firsts.items c.home-i.result c.index.result.now c.home-i.ensures.inside c.index.ensures) refl
