use Rattle.std.proofs.Common.{◌+◌, ◌*◌, length, Ok, sym, subst, ap, ◌∙◌, arith, rules}
use Rattle.bdd_nodes.specs.Store.{value_of}
use Rattle.bdd_nodes.proofs.Tables.{Grows-same, value_of-false}
use Rattle.value_tables.specs.Cells.{region_at, Reads, AreCells}
use Rattle.value_tables.specs.Tables.{truths, judged, connective}
use Rattle.kripke_model.specs.Operators.{logic}
use Rattle.value_tables.proofs.RegionLemmas.{AreCells-grows, has_region_at, keeps_join, Spends-then}
use Rattle.value_tables.proofs.WeightLemmas.{Spends-more}
use Rattle.value_tables.proofs.BinaryLemmas.{reads_grows, reads_as}
use Rattle.value_tables.proofs.ResultLemmas.{connective_judged}
use Rattle.value_tables.proofs.StepLemmas.{if_ok}
use Rattle.value_tables.proofs.operators.combined.Goals as goal

pub connected-requires-clause-a : goal.connected-requires-clause-a
connected-requires-clause-a g c =
    let s = c.args.engine.now.store in
    has_region_at s s (Grows-same s) c.args.left.now.items c.requires.left.has (Ok c.truth.result) c.region_of-a.result c.region_of-a.ensures

pub connected-requires-clause-b : goal.connected-requires-clause-b
connected-requires-clause-b g c =
    let s = c.args.engine.now.store in
    has_region_at s s (Grows-same s) c.args.right.now.items c.requires.right.has (Ok c.truth-2.result) c.region_of-b.result c.region_of-b.ensures

pub settled-requires-clause-left : goal.settled-requires-clause-left
settled-requires-clause-left g c =
    let m = c.connected.new.engine.store in
    subst (AreCells m) (sym c.deref.ensures.value) (AreCells-grows c.args.engine.now.store m c.connected.ensures.call.keeps.engine.grows c.args.left.now.items c.requires.left)

pub settled-requires-clause-right : goal.settled-requires-clause-right
settled-requires-clause-right g c =
    let m = c.connected.new.engine.store in
    subst (AreCells m) (sym c.deref-2.ensures.value) (AreCells-grows c.args.engine.now.store m c.connected.ensures.call.keeps.engine.grows c.args.right.now.items c.requires.right)

pub returns-clause-reads : goal.returns-clause-reads
returns-clause-reads g c =
    let s = c.args.engine.now.store in
    let m = c.connected.new.engine.store in
    let grows = c.connected.ensures.call.keeps.engine.grows in
    let left = c.args.left.now.items in
    let right = c.args.right.now.items in
    if_ok c.settled.result c.settled.ensures.reads (λ t reads bits a b x y.
    reads_as _ _ (judged (truths a) (truths b) (value_of m c.in_ok-hit.hit bits)) (connective c.args.op a b)
    (ap (judged (truths a) (truths b)) (c.in_ok-hit.ensures.region.value bits
    ∙ (λ i. logic c.args.op (value_of s ((c.region_of-a.ensures ∙ ap (λ v. region_at left (Ok v)) c.truth.ensures) i) bits) (value_of s ((c.region_of-b.ensures ∙ ap (λ v. region_at right (Ok v)) c.truth-2.ensures) i) bits)))
    ∙ connective_judged (λ q. value_of s q bits) left right (value_of-false s.nodes.keys bits) c.args.op a b c.requires.left.once c.requires.right.once x y)
    (reads bits (truths a) (truths b)
    (subst (λ xs. Reads (λ q. value_of m q bits) xs (truths a)) (sym c.deref.ensures.value) (reads_grows s m grows left c.requires.left.has bits (truths a) x))
    (subst (λ xs. Reads (λ q. value_of m q bits) xs (truths b)) (sym c.deref-2.ensures.value) (reads_grows s m grows right c.requires.right.has bits (truths b) y))))

pub returns-clause-call : goal.returns-clause-call
returns-clause-call g c = record { keeps = keeps_join c.connected.ensures.call.keeps c.settled.ensures.call.keeps; held = search rules }

pub returns-in_err-hit-clause-spends : goal.returns-in_err-hit-clause-spends
returns-in_err-hit-clause-spends g c = Spends-more c.args.engine.now.store c.connected.new.engine.store 2 _ (omega arith) c.connected.ensures.spends

pub returns-clause-spends : goal.returns-clause-spends
returns-clause-spends g c =
    let l = ap length c.deref.ensures.value in
    let r = ap length c.deref-2.ensures.value in
    Spends-then c.args.engine.now.store c.connected.new.engine.store c.settled.new.engine.store 2 (3 * length c.deref.result.now + 3 * length c.deref-2.result.now + 8) _ c.connected.ensures.call.keeps.engine.grows.levels
    (omega (arith, l, r)) c.connected.ensures.spends c.settled.ensures.spends
