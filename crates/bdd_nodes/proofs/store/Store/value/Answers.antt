use Rattle.std.proofs.Common.{arith, sym, ◌∙◌, ap, ◌≡◌, List, Bool}
use Rattle.bdd_nodes.specs.declared.triple.Triple.{Triple}
use Rattle.bdd_nodes.specs.Table.{value_of, child_of}
use Rattle.bdd_nodes.proofs.Tables.{node_of-has, child_of-earlier, value_of-node, value_of-end}
use Rattle.bdd_nodes.proofs.store.Store.value.Goals as goal

pub bounds-bits-triple : goal.bounds-bits-triple
bounds-bits-triple c =
    let g = c.args.self.now.good.each c.loop-triple.at c.in-Some.triple (sym c.in-Some.ensures.node) in
    omega (arith, g.inside, c.requires.bits)

pub loop-triple-smaller : goal.loop-triple-smaller
loop-triple-smaller c =
    let s = c.args.self.now in
    let g = s.good.each c.loop-triple.at c.in-Some.triple (sym c.in-Some.ensures.node) in
    omega (arith, child_of-earlier c.args.bits.now c.in-Some.triple c.loop-triple.at g.low_earlier g.high_earlier, c.child-at.ensures)

pub loop-triple-preserved : goal.loop-triple-preserved
loop-triple-preserved c =
    let s = c.args.self.now in
    let bits : List Bool = c.args.bits.now in
    let t : Triple = c.in-Some.triple in
    let at = sym c.in-Some.ensures.node in
    let g = s.good.each c.loop-triple.at t at in
    let has = (node_of-has s.nodes.keys c.loop-triple.at t at).0 in
    let v = value_of-node s.levels s.nodes.keys bits s.good c.loop-triple.at t at in
    let e : c.child-at.result ≡ child_of bits t = c.child-at.ensures in
    let below = child_of-earlier bits t c.loop-triple.at g.low_earlier g.high_earlier in
    (omega (arith, below, e, has), ap (λ r. value_of s.nodes.keys r bits) e ∙ sym v ∙ c.loop-triple.invariant.1)

pub returns : goal.returns
returns c =
    c.eq.ensures ∙ sym (value_of-end c.args.self.now.nodes.keys c.args.bits.now c.loop-triple.at c.loop-triple.invariant.0 (sym c.in_default.ensures.node)) ∙ c.loop-triple.invariant.1
