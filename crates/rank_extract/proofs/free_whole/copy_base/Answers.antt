use Rattle.std.proofs.Common.{◌≡◌, true, List, Ok, map, ◌∙◌, ap, subst}
use Rattle.std.specs.Global.{Vec}
use Rattle.region_sets.specs.declared.pins.Pin.{Pin}
use Rattle.region_sets.specs.Sets.{is_one_of, region}
use Rattle.region_sets.specs.Ranks.{lists_slots, list_regions}
use Rattle.region_sets.proofs.Changes.{stays_live}
use Rattle.fair_fixpoint.specs.declared.runs.RunLayer.{RunLayer}
use Rattle.fair_fixpoint.specs.Runs.{layers_slots, layer_views}
use Rattle.rank_extract.specs.Given.{written_layer}
use Rattle.rank_extract.specs.Made.{IsMade, layers_own, layers_seen, many, fair_of}
use Rattle.rank_extract.proofs.FreeTop.{layers_live, left_live, reach_live, fair_stays, base_made, base_refused}
use Rattle.rank_extract.proofs.Makes.{all_stay}
use Rattle.rank_extract.proofs.free_whole.copy_base.Goals as goal

pub copy_layers-requires : goal.copy_layers-requires
copy_layers-requires g c = λ k h.
    layers_live c.args.pruned.now (g.S.StateSets.seen c.args.sets.now) c.requires k (subst (λ (ls : List RunLayer). is_one_of k (layers_slots ls) ≡ true) c.deref.ensures.value h)

pub copy_fair-requires-clause-inside : goal.copy_fair-requires-clause-inside
copy_fair-requires-clause-inside g c =
    stays_live c.in_ok-nonfair.ensures.call.pins c.args.pruned.now.left.slot (left_live c.args.pruned.now (g.S.StateSets.seen c.args.sets.now) c.requires)

pub copy_fair-requires-clause-reach : goal.copy_fair-requires-clause-reach
copy_fair-requires-clause-reach g c = λ k h.
    all_stay (lists_slots c.args.pruned.now.reach.items) c.in_ok-nonfair.ensures.call.pins (reach_live c.args.pruned.now (g.S.StateSets.seen c.args.sets.now) c.requires) k
    (subst (λ (ls : List (Vec Pin)). is_one_of k (lists_slots ls) ≡ true) c.deref-2.ensures.value h)

pub returns-in-Ok : goal.returns-in-Ok
returns-in-Ok g c =
    let s0 = g.S.StateSets.seen c.args.sets.now in
    let s1 = g.S.StateSets.seen c.copy_layers.new.sets in
    let p = c.args.pruned.now in
    base_made (ap (λ ls. fair_of (region s1 p.left) (list_regions s1 ls)) c.deref-2.ensures.value ∙ fair_stays p s0 c.requires c.in_ok-nonfair.ensures.call.pins) c.in_ok-nonfair.nonfair c.in-Ok.fair
    (subst (λ (ls : List RunLayer). IsMade layers_own layers_seen many s0 s1 (map written_layer (layer_views s0 ls)) (Ok c.in_ok-nonfair.nonfair)) c.deref.ensures.value c.in_ok-nonfair.ensures)
    c.in-Ok.ensures

pub returns-in-Err : goal.returns-in-Err
returns-in-Err g c =
    let s0 = g.S.StateSets.seen c.args.sets.now in
    let s1 = g.S.StateSets.seen c.copy_layers.new.sets in
    let p = c.args.pruned.now in
    base_refused (ap (λ ls. fair_of (region s1 p.left) (list_regions s1 ls)) c.deref-2.ensures.value ∙ fair_stays p s0 c.requires c.in_ok-nonfair.ensures.call.pins) c.in_ok-nonfair.nonfair
    (subst (λ (ls : List RunLayer). IsMade layers_own layers_seen many s0 s1 (map written_layer (layer_views s0 ls)) (Ok c.in_ok-nonfair.nonfair)) c.deref.ensures.value c.in_ok-nonfair.ensures)
    c.in-Err.ensures c.release_layers.ensures.pins c.release_layers.ensures.fulls
