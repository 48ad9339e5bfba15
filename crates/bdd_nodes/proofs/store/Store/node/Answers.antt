use Rattle.std.proofs.Common.{sym, arith, ◌≡◌, ◌+◌, ◌-◌}
use Rattle.bdd_nodes.proofs.Tables.{node_of-at, node_of-constant}
use Rattle.bdd_nodes.proofs.store.Store.node.Goals as goal

pub returns-then-r-lt2-clause-node : goal.returns-then-r-lt2-clause-node
returns-then-r-lt2-clause-node c = sym (node_of-constant c.args.self.now.nodes.keys c.args.r (omega arith))

pub returns-clause-node : goal.returns-clause-node
returns-clause-node c =
    let e : c.args.r ≡ (c.r.inside.number - 2) + 2 = omega arith in
    rw (c.copied.ensures, c.get_index.ensures.key, e) (sym (node_of-at c.args.self.now.nodes.keys (c.r.inside.number - 2)))
