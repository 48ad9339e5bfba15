use Rattle.std.proofs.Common.{◌≡◌, ◌+◌, ◌*◌, ◌≤◌, length, map, All, sym, ◌∙◌, ap, subst, arith}
use Rattle.std.proofs.lemmas.List.{length-map}
use Rattle.kripke_model.specs.WellFormed.{ctl_of}
use Rattle.region_sets.specs.declared.pins.Pin.{Pin}
use Rattle.region_sets.specs.Sets.{region}
use Rattle.region_sets.specs.Ranks.{regions, list_regions}
use Rattle.path_laws.specs.StateCount.{state_count}
use Rattle.fair_rules.specs.FreePart.{path_nodes_of}
use Rattle.fair_fixpoint.specs.Formulas.{node_pins}
use Rattle.fair_fixpoint.specs.Runs.{layer_views}
use Rattle.kripke_model.specs.Leaves.{HasModelLeaves}
use Rattle.proof_form.specs.Form.{map_free}
use Rattle.rank_extract.specs.FreeMade.{part_result_slots}
use Rattle.rank_extract.specs.FreeTop.{base_size, pruned_base}
use Rattle.rank_extract.proofs.FreeOver.{base_few, made_here, over_call, over_written}
use Rattle.rank_extract.proofs.Makes.{region_stays, regions_stay}
use Rattle.rank_extract.proofs.free_whole.part_over.Goals as goal

pub part_of-part-requires-clause-base : goal.part_of-part-requires-clause-base
part_of-part-requires-clause-base g c =
    let s0 = g.S.StateSets.seen c.args.sets.now in
    let s1 = g.S.StateSets.seen c.prune.new.sets in
    let one : length (regions s0 c.args.visits.now) ≡ 1 = length-map c.args.visits.now (λ (q : Pin). region s0 q) ∙ c.requires.one in
    subst (λ m. base_size (pruned_base s1 c.in_ok-pruned.pruned) ≤ node_pins m 1) (sym c.in_ok-pruned.ensures.call.pins.over)
    (base_few s0.over (regions s0 c.args.visits.now) one (region s0 c.args.within.now) s1 c.in_ok-pruned.pruned c.in_ok-pruned.ensures.pruned)

pub part_of-part-requires-clause-leaves : goal.part_of-part-requires-clause-leaves
part_of-part-requires-clause-leaves g c = subst (λ m. All (HasModelLeaves m) (map ctl_of c.args.formulas.now)) (sym c.in_ok-pruned.ensures.call.pins.over) c.requires.leaves

pub returns-clause-call : goal.returns-clause-call
returns-clause-call g c =
    let s0 = g.S.StateSets.seen c.args.sets.now in
    let s1 = g.S.StateSets.seen c.prune.new.sets in
    let s2 = g.S.StateSets.seen c.part_of-part.new.sets in
    let p = c.in_ok-pruned.pruned in
    let fs = map ctl_of c.args.formulas.now in
    let r = c.part_of-part.result in
    let one : length (regions s0 c.args.visits.now) ≡ 1 = length-map c.args.visits.now (λ (q : Pin). region s0 q) ∙ c.requires.one in
    let held : (length c.args.visits.now + 2) * state_count s0.over + 5 ≤ node_pins s0.over 1 + 2 = omega (arith, ap (λ n. (n + 2) * state_count s0.over + 5) c.requires.one) in
    let made =
    made_here (path_nodes_of fs) (region s1 p.left) (layer_views s1 p.layers.items) (list_regions s1 p.reach.items) fs s1 s2 (part_result_slots r) (map_free (region s2)) r c.in_ok-pruned.ensures.call.pins.over
    (regions_stay c.args.visits.now c.in_ok-pruned.ensures.call.pins c.requires.visits) (region_stays c.args.within.now c.in_ok-pruned.ensures.call.pins c.requires.within) c.part_of-part.ensures in
    over_call fs p one _ held c.in_ok-pruned.ensures.call c.in_ok-pruned.ensures.pruned r made c.release.ensures.pins c.release.ensures.fulls

pub returns-clause-written : goal.returns-clause-written
returns-clause-written g c =
    let s0 = g.S.StateSets.seen c.args.sets.now in
    let s1 = g.S.StateSets.seen c.prune.new.sets in
    let s2 = g.S.StateSets.seen c.part_of-part.new.sets in
    let p = c.in_ok-pruned.pruned in
    let fs = map ctl_of c.args.formulas.now in
    let r = c.part_of-part.result in
    let one : length (regions s0 c.args.visits.now) ≡ 1 = length-map c.args.visits.now (λ (q : Pin). region s0 q) ∙ c.requires.one in
    let held : (length c.args.visits.now + 2) * state_count s0.over + 5 ≤ node_pins s0.over 1 + 2 = omega (arith, ap (λ n. (n + 2) * state_count s0.over + 5) c.requires.one) in
    let made =
    made_here (path_nodes_of fs) (region s1 p.left) (layer_views s1 p.layers.items) (list_regions s1 p.reach.items) fs s1 s2 (part_result_slots r) (map_free (region s2)) r c.in_ok-pruned.ensures.call.pins.over
    (regions_stay c.args.visits.now c.in_ok-pruned.ensures.call.pins c.requires.visits) (region_stays c.args.within.now c.in_ok-pruned.ensures.call.pins c.requires.within) c.part_of-part.ensures in
    over_written fs p one _ held c.in_ok-pruned.ensures.call c.in_ok-pruned.ensures.pruned r made c.release.ensures.pins c.release.ensures.fulls
