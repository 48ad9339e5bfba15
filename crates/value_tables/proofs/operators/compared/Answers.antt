use Rattle.std.proofs.Common.{◌+◌, ◌*◌, length, sym, subst, ap, ◌∙◌, arith, rules}
use Rattle.bdd_nodes.specs.Store.{value_of}
use Rattle.bdd_nodes.proofs.Tables.{value_of-false}
use Rattle.value_tables.specs.Cells.{Reads, AreCells}
use Rattle.value_tables.specs.Tables.{alone, judged, membership}
use Rattle.value_tables.proofs.RegionLemmas.{AreCells-grows, keeps_join, Spends-then}
use Rattle.value_tables.proofs.WeightLemmas.{Spends-more}
use Rattle.value_tables.proofs.BinaryLemmas.{reads_grows, reads_as}
use Rattle.value_tables.proofs.ResultLemmas.{membership_judged}
use Rattle.value_tables.proofs.StepLemmas.{if_ok}
use Rattle.value_tables.proofs.operators.compared.Goals as goal

pub settled-requires-clause-left : goal.settled-requires-clause-left
settled-requires-clause-left g c = AreCells-grows c.args.engine.now.store c.matched.new.engine.store c.matched.ensures.call.keeps.engine.grows c.args.left.now c.requires.left

pub settled-requires-clause-right : goal.settled-requires-clause-right
settled-requires-clause-right g c =
    let m = c.matched.new.engine.store in
    subst (AreCells m) (sym c.deref.ensures.value) (AreCells-grows c.args.engine.now.store m c.matched.ensures.call.keeps.engine.grows c.args.right.now.items c.requires.right)

pub returns-clause-reads : goal.returns-clause-reads
returns-clause-reads g c =
    let s = c.args.engine.now.store in
    let m = c.matched.new.engine.store in
    let grows = c.matched.ensures.call.keeps.engine.grows in
    if_ok c.settled.result c.settled.ensures.reads (λ t reads bits a d x y.
    reads_as _ _ (judged (alone a) d (value_of m c.in_ok-hit.hit bits)) (membership a d)
    (ap (judged (alone a) d) (c.in_ok-hit.ensures.region.value bits) ∙ membership_judged (λ q. value_of s q bits) c.args.left.now c.args.right.now.items (value_of-false s.nodes.keys bits) a d c.requires.right.once x y)
    (reads bits (alone a) d (reads_grows s m grows c.args.left.now c.requires.left.has bits (alone a) x)
    (subst (λ xs. Reads (λ q. value_of m q bits) xs d) (sym c.deref.ensures.value) (reads_grows s m grows c.args.right.now.items c.requires.right.has bits d y))))

pub returns-clause-call : goal.returns-clause-call
returns-clause-call g c = record { keeps = keeps_join c.matched.ensures.call.keeps c.settled.ensures.call.keeps; held = search rules }

pub returns-in_err-hit-clause-spends : goal.returns-in_err-hit-clause-spends
returns-in_err-hit-clause-spends g c = Spends-more c.args.engine.now.store c.matched.new.engine.store (2 * length c.args.left.now) _ (omega arith) c.matched.ensures.spends

pub returns-clause-spends : goal.returns-clause-spends
returns-clause-spends g c =
    let r = ap length c.deref.ensures.value in
    Spends-then c.args.engine.now.store c.matched.new.engine.store c.settled.new.engine.store (2 * length c.args.left.now) (3 * length c.args.left.now + 3 * length c.deref.result.now + 8) _ c.matched.ensures.call.keeps.engine.grows.levels
    (omega (arith, r)) c.matched.ensures.spends c.settled.ensures.spends
