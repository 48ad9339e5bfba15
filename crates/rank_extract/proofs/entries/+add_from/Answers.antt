use Rattle.std.proofs.Common.{◌+◌}
use Rattle.std.proofs.lemmas.Result.{err_from_is_err_and}
use Rattle.kripke_model.specs.Reading.{term_of}
use Rattle.kripke_model.specs.WellFormed.{ctl_of}
use Rattle.rank_extract.proofs.Wanted.{leaf_whole, one_whole, first_stopped, two_whole}
use Rattle.rank_extract.proofs.entries.+add_from.Goals as goal

pub returns-in-Leaf-clause-added : goal.returns-in-Leaf-clause-added
returns-in-Leaf-clause-added g t c =
    leaf_whole c.args.fair.now c.args.nodes.now c.requires.fair c.requires.nodes c.args.number c.args.signs.plus c.args.signs.minus
    (term_of c.in-Leaf.field-0.now) (ctl_of c.args.formula.now) c.args.entries.now.items (c.args.number + 1) c.in-Leaf.ensures

pub returns-in_ok-add_node-in-One-clause-added : goal.returns-in_ok-add_node-in-One-clause-added
returns-in_ok-add_node-in-One-clause-added g t c =
    one_whole c.args.fair.now c.args.nodes.now c.requires.fair c.requires.nodes c.args.number c.args.signs.plus c.args.signs.minus c.in-One.kind
    (ctl_of c.in-One.f.now) (ctl_of c.args.formula.now) c.of_first-signs.result.plus c.of_first-signs.result.minus c.in-One.ensures c.of_first-signs.ensures.plus c.of_first-signs.ensures.minus
    c.in_ok-add_node-in-One.ensures c.add_from.ensures.added

pub returns-in_err-next-in-Two-clause-added : goal.returns-in_err-next-in-Two-clause-added
returns-in_err-next-in-Two-clause-added g t c =
    let p = err_from_is_err_and c.from_residual-in_err-next-in-Two.result c.from_residual-in_err-next-in-Two.ensures.1 in
    rw (p.1, p.2)
    (first_stopped c.args.fair.now c.args.nodes.now c.requires.fair c.requires.nodes c.args.number c.args.signs.plus c.args.signs.minus c.in-Two.kind
    (ctl_of c.in-Two.f.now) (ctl_of c.in-Two.g.now) (ctl_of c.args.formula.now) c.in-Two.ensures c.of_first-first.result.plus c.of_first-first.result.minus c.of_first-first.ensures.plus c.of_first-first.ensures.minus
    c.in_ok-add_node-in-Two.ensures c.in_err-next-in-Two.ensures.added)

pub returns-in_ok-next-in-Two-clause-added : goal.returns-in_ok-next-in-Two-clause-added
returns-in_ok-next-in-Two-clause-added g t c =
    two_whole c.args.fair.now c.args.nodes.now c.requires.fair c.requires.nodes c.args.number c.args.signs.plus c.args.signs.minus c.in-Two.kind
    (ctl_of c.in-Two.f.now) (ctl_of c.in-Two.g.now) (ctl_of c.args.formula.now) c.in-Two.ensures c.of_first-first.result.plus c.of_first-first.result.minus c.of_first-first.ensures.plus c.of_first-first.ensures.minus
    c.in_ok-add_node-in-Two.ensures c.in_ok-next-in-Two.next c.of_last-last.result.plus c.of_last-last.result.minus c.in_ok-next-in-Two.ensures.next c.of_last-last.ensures.plus c.of_last-last.ensures.minus
    c.in_ok-next-in-Two.ensures.added c.add_from-in-Two-2.ensures.added
