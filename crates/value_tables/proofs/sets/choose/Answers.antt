use Rattle.std.proofs.Common.{◌+◌, ◌*◌, ◌∙◌, ◌&&◌, ◌||◌, length, Ok, refl, ap, arith, rules}
use Rattle.bdd_nodes.specs.Store.{value_of}
use Rattle.bdd_nodes.proofs.Tables.{Grows-then, value_of-false}
use Rattle.value_tables.specs.declared.pick.Pick.{Pick}
use Rattle.value_tables.specs.Cells.{same_reading, shows, any_cell, region_at}
use Rattle.value_tables.specs.Pick.{becomes}
use Rattle.value_tables.proofs.WeightLemmas.{Spends-more}
use Rattle.value_tables.proofs.ReadingLists.{reads-any}
use Rattle.value_tables.proofs.RegionLemmas.{any_cell-grows, has-grows, AreCells-grows, has_region_at, region_at-grows, keeps_join, Spends-then}
use Rattle.value_tables.proofs.OperatorLemmas.{arm_each, arm_rest}
use Rattle.value_tables.proofs.StepLemmas.{if_ok, on_ok}
use Rattle.value_tables.proofs.sets.choose.Goals as goal

pub meet-requires-clause-f : goal.meet-requires-clause-f
meet-requires-clause-f g c = has_region_at c.args.engine.now.store c.spread.new.engine.store c.spread.ensures.call.keeps.engine.grows c.args.guard.now.items c.requires.guard.has (Ok c.truth.result) c.region_of.result c.region_of.ensures

pub spread-requires-2-clause-cells : goal.spread-requires-2-clause-cells
spread-requires-2-clause-cells g c = has-grows c.args.engine.now.store c.meet.new.engine.store (Grows-then c.args.engine.now.store c.spread.new.engine.store c.meet.new.engine.store c.spread.ensures.call.keeps.engine.grows c.meet.ensures.call.keeps.engine.grows) c.args.right.now c.requires.right.has

pub spread-requires-2-clause-out : goal.spread-requires-2-clause-out
spread-requires-2-clause-out g c = AreCells-grows c.spread.new.engine.store c.meet.new.engine.store c.meet.ensures.call.keeps.engine.grows _ c.in_ok-spread.ensures.cells

pub meet-requires-2-clause-f : goal.meet-requires-2-clause-f
meet-requires-2-clause-f g c =
    let s = c.args.engine.now.store in
    let p = c.spread.new.engine.store in
    let m = c.meet.new.engine.store in
    let q = c.spread-2.new.engine.store in
    has_region_at s q (Grows-then s m q (Grows-then s p m c.spread.ensures.call.keeps.engine.grows c.meet.ensures.call.keeps.engine.grows) c.spread-2.ensures.call.keeps.engine.grows) c.args.guard.now.items c.requires.guard.has (Ok c.truth-2.result) c.region_of-2.result c.region_of-2.ensures

pub returns-in_err-spread-2-clause-call : goal.returns-in_err-spread-2-clause-call
returns-in_err-spread-2-clause-call g c = record { keeps = keeps_join (keeps_join c.spread.ensures.call.keeps c.meet.ensures.call.keeps) c.spread-2.ensures.call.keeps; held = search rules }

pub returns-clause-call : goal.returns-clause-call
returns-clause-call g c = record { keeps = keeps_join (keeps_join (keeps_join c.spread.ensures.call.keeps c.meet.ensures.call.keeps) c.spread-2.ensures.call.keeps) c.meet-2.ensures.call.keeps; held = search rules }

pub returns-clause-cells : goal.returns-clause-cells
returns-clause-cells g c = on_ok c.meet-2.result (AreCells-grows c.spread-2.new.engine.store c.meet-2.new.engine.store c.meet-2.ensures.call.keeps.engine.grows _ c.in_ok-spread-2.ensures.cells)

pub returns-clause-has : goal.returns-clause-has
returns-clause-has g c = if_ok c.meet-2.result c.meet-2.ensures.region (λ r h. h.has)

pub returns-clause-shows : goal.returns-clause-shows
returns-clause-shows g c =
    let s = c.args.engine.now.store in
    let p = c.spread.new.engine.store in
    let m = c.meet.new.engine.store in
    let q = c.spread-2.new.engine.store in
    let z = c.meet-2.new.engine.store in
    let s_p = c.spread.ensures.call.keeps.engine.grows in
    let p_m = c.meet.ensures.call.keeps.engine.grows in
    let s_m = Grows-then s p m s_p p_m in
    on_ok c.meet-2.result (λ bits b d x y k.
    arm_each (λ n. value_of s n bits) c.args.guard.now.items b (value_of-false s.nodes.keys bits) c.requires.guard.once x k d _ _ _ _ _ (value_of s c.args.left bits) _ _ _
    (any_cell-grows q z c.meet-2.ensures.call.keeps.engine.grows _ c.in_ok-spread-2.ensures.cells.has bits (same_reading k) ∙ c.in_ok-spread-2.ensures.shows bits k)
    (any_cell-grows p m p_m _ c.in_ok-spread.ensures.cells.has bits (same_reading k))
    (c.in_ok-spread.ensures.shows bits k ∙ (λ j. shows (λ n. value_of s n bits) c.args.out.now.items k || (any_cell (λ n. value_of s n bits) (becomes Pick.Faults k) (c.deref.ensures.value j) && value_of s c.args.left bits)))
    refl
    refl
    (any_cell-grows s m s_m c.args.right.now c.requires.right.has bits (same_reading k) ∙ reads-any (λ n. value_of s n bits) c.args.right.now d y (same_reading k))
    (c.in_ok-yes.ensures.region.value bits
    ∙ (λ i. (region_at-grows s p s_p c.args.guard.now.items c.requires.guard.has (Ok c.truth.result) c.region_of.result c.region_of.ensures bits ∙ ap (λ v. value_of s (region_at c.args.guard.now.items (Ok v)) bits) c.truth.ensures) i && s_p.value c.args.left c.requires.left bits i)))

pub returns-clause-rest : goal.returns-clause-rest
returns-clause-rest g c =
    let s = c.args.engine.now.store in
    let p = c.spread.new.engine.store in
    let m = c.meet.new.engine.store in
    let q = c.spread-2.new.engine.store in
    let s_q = Grows-then s m q (Grows-then s p m c.spread.ensures.call.keeps.engine.grows c.meet.ensures.call.keeps.engine.grows) c.spread-2.ensures.call.keeps.engine.grows in
    if_ok c.meet-2.result c.meet-2.ensures.region (λ r h bits b x.
    h.value bits
    ∙ (λ i. (region_at-grows s q s_q c.args.guard.now.items c.requires.guard.has (Ok c.truth-2.result) c.region_of-2.result c.region_of-2.ensures bits ∙ ap (λ v. value_of s (region_at c.args.guard.now.items (Ok v)) bits) c.truth-2.ensures) i && s_q.value c.args.left c.requires.left bits i)
    ∙ arm_rest (λ n. value_of s n bits) c.args.guard.now.items b (value_of-false s.nodes.keys bits) c.requires.guard.once x (value_of s c.args.left bits))

pub returns-in_err-spread-2-clause-spends : goal.returns-in_err-spread-2-clause-spends
returns-in_err-spread-2-clause-spends g c =
    let s = c.args.engine.now.store in
    let p = c.spread.new.engine.store in
    let m = c.meet.new.engine.store in
    let few = ap length c.deref.ensures.value in
    let first = c.spread.ensures.call.keeps.engine.grows.levels in
    Spends-then s m c.spread-2.new.engine.store (2 * length c.deref.result.now + 1) (2 * length c.args.right.now) _ (c.meet.ensures.call.keeps.engine.grows.levels ∙ first) (omega (arith, few))
    (Spends-then s p m (2 * length c.deref.result.now) 1 _ first (omega arith) c.spread.ensures.spends c.meet.ensures.spends) c.spread-2.ensures.spends

pub returns-clause-spends : goal.returns-clause-spends
returns-clause-spends g c =
    let s = c.args.engine.now.store in
    let p = c.spread.new.engine.store in
    let m = c.meet.new.engine.store in
    let q = c.spread-2.new.engine.store in
    let few = ap length c.deref.ensures.value in
    let first = c.spread.ensures.call.keeps.engine.grows.levels in
    let second = c.meet.ensures.call.keeps.engine.grows.levels ∙ first in
    Spends-then s q c.meet-2.new.engine.store (2 * length c.deref.result.now + 2 * length c.args.right.now + 1) 1 _ (c.spread-2.ensures.call.keeps.engine.grows.levels ∙ second) (omega (arith, few))
    (Spends-then s m q (2 * length c.deref.result.now + 1) (2 * length c.args.right.now) _ second (omega arith)
    (Spends-then s p m (2 * length c.deref.result.now) 1 _ first (omega arith) c.spread.ensures.spends c.meet.ensures.spends) c.spread-2.ensures.spends) c.meet-2.ensures.spends

pub returns-in_err-yes-clause-call : goal.returns-in_err-yes-clause-call
returns-in_err-yes-clause-call g c = record { keeps = keeps_join c.spread.ensures.call.keeps c.meet.ensures.call.keeps; held = search rules }

pub returns-in_err-spread-clause-spends : goal.returns-in_err-spread-clause-spends
returns-in_err-spread-clause-spends g c =
    let few = ap length c.deref.ensures.value in
    Spends-more c.args.engine.now.store c.spread.new.engine.store (2 * length c.deref.result.now) _ (omega (arith, few)) c.spread.ensures.spends

pub returns-in_err-yes-clause-spends : goal.returns-in_err-yes-clause-spends
returns-in_err-yes-clause-spends g c =
    let few = ap length c.deref.ensures.value in
    Spends-then c.args.engine.now.store c.spread.new.engine.store c.meet.new.engine.store (2 * length c.deref.result.now) 1 _ c.spread.ensures.call.keeps.engine.grows.levels (omega (arith, few)) c.spread.ensures.spends c.meet.ensures.spends
