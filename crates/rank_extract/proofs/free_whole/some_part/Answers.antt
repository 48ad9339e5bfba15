use Rattle.std.proofs.Common.{◌≡◌, ◌≤◌, length, get_or, map, sym, ◌∙◌, ap, subst, arith}
use Rattle.std.proofs.lemmas.List.{length-map}
use Rattle.std.proofs.lemmas.Result.{err_from_is_err_and}
use Rattle.kripke_model.specs.WellFormed.{ctl_of}
use Rattle.region_sets.specs.declared.pins.Pin.{Pin}
use Rattle.region_sets.specs.Sets.{IsLive, region}
use Rattle.region_sets.proofs.Calls.{holds_more}
use Rattle.region_sets.specs.Ranks.{regions}
use Rattle.fair_rules.specs.FreePart.{constraint_nodes, path_nodes_of}
use Rattle.fair_fixpoint.specs.ConstraintSets.{IsWhole}
use Rattle.fair_fixpoint.proofs.FairStates.{formulas_leaves}
use Rattle.fair_fixpoint.proofs.FreeTruth.{pin_whole}
use Rattle.proof_form.specs.Form.{map_free}
use Rattle.rank_extract.specs.FreeMade.{free_hold, part_result_slots}
use Rattle.rank_extract.specs.FreeTop.{part_hold}
use Rattle.rank_extract.proofs.Adding.{to_err}
use Rattle.rank_extract.proofs.Makes.{slot_at}
use Rattle.rank_extract.proofs.FreeOver.{over_fits, call_here, free_here, some_call, some_whole}
use Rattle.rank_extract.proofs.Whole.{some_room}
use Rattle.rank_extract.proofs.free_whole.some_part.Goals as goal

pub returns-in_err-visits-clause-call : goal.returns-in_err-visits-clause-call
returns-in_err-visits-clause-call g c =
    let m = c.args.model.now in
    let p = err_from_is_err_and c.from_residual.result c.from_residual.ensures.1 in
    rw (p.1, p.2)
    (to_err c.in_err-visits.field-0.0 (holds_more (free_hold m) (omega (arith, over_fits m (constraint_nodes m) (some_room m c.rules_law.ensures.inhabited))) c.in_err-visits.ensures.call))

pub part_over-part-requires-clause-within : goal.part_over-part-requires-clause-within
part_over-part-requires-clause-within g c =
    let s1 = g.S.StateSets.seen c.whole_list.new.sets in
    let visits = c.in_ok-visits.visits.items in
    subst (λ (q : Pin). IsLive s1 q.slot) (sym c.index.ensures)
    (c.in_ok-visits.ensures.call.pins.there (get_or visits 0 c.index.result.now).slot
    (slot_at visits 0 c.index.result.now (omega (arith, c.in_ok-visits.ensures.set.0, length-map visits (λ (q : Pin). region s1 q)))))

pub part_over-part-requires-clause-leaves : goal.part_over-part-requires-clause-leaves
part_over-part-requires-clause-leaves g c =
    formulas_leaves c.args.model.now (g.S.StateSets.seen c.whole_list.new.sets).over (map ctl_of c.fair.result.now) (sym (c.in_ok-visits.ensures.call.pins.over ∙ c.requires.over)) c.fair.ensures c.leaves_law.ensures.constraints

pub returns-clause-call : goal.returns-clause-call
returns-clause-call g c =
    let m = c.args.model.now in
    let s1 = g.S.StateSets.seen c.whole_list.new.sets in
    let s2 = g.S.StateSets.seen c.part_over-part.new.sets in
    let r = c.part_over-part.result in
    let visits = c.in_ok-visits.visits.items in
    let over : s1.over ≡ m = c.in_ok-visits.ensures.call.pins.over ∙ c.requires.over in
    let whole : IsWhole m (regions s1 visits) = subst (λ k. IsWhole k (regions s1 visits)) c.requires.over c.in_ok-visits.ensures.set in
    some_call m visits (some_room m c.rules_law.ensures.inhabited) c.in_ok-visits.ensures.call whole (region s1 c.index.result.now) (pin_whole m s1 visits c.index.result.now whole c.index.ensures) r
    (call_here over c.fair.ensures c.part_over-part.ensures.call)
    (free_here (region s1 c.index.result.now) (map_free (region s2)) r over (ap (regions s1) c.deref.ensures.value) c.fair.ensures c.part_over-part.ensures.written)
    c.release_all.ensures.pins c.release_all.ensures.fulls

pub returns-clause-few : goal.returns-clause-few
returns-clause-few g c =
    let m = c.args.model.now in
    let s1 = g.S.StateSets.seen c.whole_list.new.sets in
    let over : s1.over ≡ m = c.in_ok-visits.ensures.call.pins.over ∙ c.requires.over in
    let few : length (part_result_slots c.part_over-part.result) ≤ part_hold m (constraint_nodes m) =
    subst (λ k. length (part_result_slots c.part_over-part.result) ≤ part_hold k (constraint_nodes m)) over
    (subst (λ fs. length (part_result_slots c.part_over-part.result) ≤ part_hold s1.over (path_nodes_of fs)) c.fair.ensures c.part_over-part.ensures.few) in
    omega (arith, few, over_fits m (constraint_nodes m) (some_room m c.rules_law.ensures.inhabited))

pub returns-clause-whole : goal.returns-clause-whole
returns-clause-whole g c =
    let m = c.args.model.now in
    let s1 = g.S.StateSets.seen c.whole_list.new.sets in
    let s2 = g.S.StateSets.seen c.part_over-part.new.sets in
    let r = c.part_over-part.result in
    let visits = c.in_ok-visits.visits.items in
    let over : s1.over ≡ m = c.in_ok-visits.ensures.call.pins.over ∙ c.requires.over in
    let whole : IsWhole m (regions s1 visits) = subst (λ k. IsWhole k (regions s1 visits)) c.requires.over c.in_ok-visits.ensures.set in
    some_whole m visits (some_room m c.rules_law.ensures.inhabited) c.in_ok-visits.ensures.call whole (region s1 c.index.result.now) (pin_whole m s1 visits c.index.result.now whole c.index.ensures) r
    (call_here over c.fair.ensures c.part_over-part.ensures.call)
    (free_here (region s1 c.index.result.now) (map_free (region s2)) r over (ap (regions s1) c.deref.ensures.value) c.fair.ensures c.part_over-part.ensures.written)
    c.release_all.ensures.pins c.release_all.ensures.fulls c.requires.paths
