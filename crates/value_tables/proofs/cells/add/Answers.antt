use Rattle.std.proofs.Common.{◌≡◌, ◌≢◌, ◌||◌, get_or, List, length, sym, subst, ap, ◌∙◌, arith}
use Rattle.std.proofs.lemmas.Bool.{eqb-true, eqb-false}
use Rattle.bdd_nodes.specs.Store.{value_of}
use Rattle.value_tables.specs.declared.cells.Cell.{Cell}
use Rattle.bdd_ops.specs.Kept.{IsRegion}
use Rattle.value_tables.specs.Cells.{shows, AreCells}
use Rattle.value_tables.proofs.AddLemmas.{shows_none, AreCells-push, AreCells-enlarge, shows-enlarge}
use Rattle.value_tables.proofs.CellListLemmas.{with_region-set, length-with_region}
use Rattle.value_tables.proofs.cells.add.Goals as goal

pub returns-then-eq-clause-shows : goal.returns-then-eq-clause-shows
returns-then-eq-clause-shows g c = shows_none c.args.engine.now.store c.args.cells.now.items c.args.reading c.args.region (eqb-true c.args.region 0 (sym c.eq.ensures ∙ c.if-eq.true))

pub returns-in_ok-joined-in-Some-clause-cells : goal.returns-in_ok-joined-in-Some-clause-cells
returns-in_ok-joined-in-Some-clause-cells g c =
    let s = c.args.engine.now.store in
    let z = c.join.new.engine.store in
    let cells = c.args.cells.now.items in
    let place = c.in-Some.place in
    let joined = c.in_ok-joined-in-Some.joined in
    let cell : Cell = c.index-deref-place.result in
    let is : cell ≡ get_or cells place cell = c.index-deref-place.is ∙ ap (λ (xs : List Cell). get_or xs place cell) c.deref.ensures.value in
    let region = subst (λ (x : Cell). IsRegion z joined (λ bits. value_of s x.region bits || value_of s c.args.region bits)) (sym c.index-deref-place.is) c.in_ok-joined-in-Some.ensures.region in
    subst (AreCells z) (sym (c.set_region.ensures ∙ with_region-set cells place joined cell is))
    (AreCells-enlarge s z c.join.ensures.call.keeps.engine.grows cells place cell c.args.reading c.args.region joined c.requires.cells c.requires.region (sym c.in-Some.ensures) is region)

pub returns-in_ok-joined-in-Some-clause-shows : goal.returns-in_ok-joined-in-Some-clause-shows
returns-in_ok-joined-in-Some-clause-shows g c =
    let s = c.args.engine.now.store in
    let z = c.join.new.engine.store in
    let cells = c.args.cells.now.items in
    let place = c.in-Some.place in
    let joined = c.in_ok-joined-in-Some.joined in
    let cell : Cell = c.index-deref-place.result in
    let is : cell ≡ get_or cells place cell = c.index-deref-place.is ∙ ap (λ (xs : List Cell). get_or xs place cell) c.deref.ensures.value in
    let region = subst (λ (x : Cell). IsRegion z joined (λ bits. value_of s x.region bits || value_of s c.args.region bits)) (sym c.index-deref-place.is) c.in_ok-joined-in-Some.ensures.region in
    λ bits k.
    ap (λ (xs : List Cell). shows (λ r. value_of z r bits) xs k) (c.set_region.ensures ∙ with_region-set cells place joined cell is)
    ∙ shows-enlarge s z c.join.ensures.call.keeps.engine.grows cells place cell c.args.reading c.args.region joined c.requires.cells c.requires.region (sym c.in-Some.ensures) is region bits k

pub returns-in_ok-joined-in-Some-clause-few : goal.returns-in_ok-joined-in-Some-clause-few
returns-in_ok-joined-in-Some-clause-few g c =
    omega (arith, ap length c.set_region.ensures, length-with_region c.args.cells.now.items c.in-Some.place c.in_ok-joined-in-Some.joined)

pub returns-in-Ok-clause-cells : goal.returns-in-Ok-clause-cells
returns-in-Ok-clause-cells g c =
    let filled : c.args.region ≢ 0 = λ z. eqb-false c.args.region 0 (sym c.eq.ensures ∙ c.if-eq.false) z in
    subst (AreCells c.args.engine.now.store) (sym c.in-Ok.ensures.items) (AreCells-push c.args.engine.now.store c.args.cells.now.items c.args.reading c.args.region c.requires.cells c.requires.region filled (sym c.in-None.ensures))
