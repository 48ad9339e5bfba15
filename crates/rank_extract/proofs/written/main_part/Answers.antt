use Rattle.std.proofs.Common.{◌≡◌, true, List, Ok, map, subst}
use Rattle.kripke_model.specs.WellFormed.{ctl_of}
use Rattle.region_sets.specs.Sets.{is_one_of}
use Rattle.fair_fixpoint.specs.declared.runs.RunLayer.{RunLayer}
use Rattle.fair_fixpoint.specs.Runs.{layers_slots, layer_views}
use Rattle.rank_extract.specs.Given.{written_layer}
use Rattle.rank_extract.specs.Made.{IsMade, layers_own, layers_seen, many}
use Rattle.rank_extract.proofs.Parts.{main_made, main_refused}
use Rattle.rank_extract.proofs.RunParts.{nonfair_live, behind_stays}
use Rattle.rank_extract.proofs.written.main_part.Goals as goal

pub copy_layers-requires : goal.copy_layers-requires
copy_layers-requires g c = λ k h.
    nonfair_live c.args.run.now (g.S.StateSets.seen c.args.sets.now) c.requires.live k (subst (λ (ls : List RunLayer). is_one_of k (layers_slots ls) ≡ true) c.deref.ensures.value h)

pub returns-in-Ok : goal.returns-in-Ok
returns-in-Ok g c =
    let s0 = g.S.StateSets.seen c.args.sets.now in
    let s1 = g.S.StateSets.seen c.copy_layers.new.sets in
    main_made c.args.at.now (behind_stays c.args.run.now s0 c.requires.live c.in_ok-nonfair.ensures.call.pins (ctl_of c.args.formula.now) c.args.at.now) c.in_ok-nonfair.nonfair c.in-Ok.behind
    (subst (λ (ls : List RunLayer). IsMade layers_own layers_seen many s0 s1 (map written_layer (layer_views s0 ls)) (Ok c.in_ok-nonfair.nonfair)) c.deref.ensures.value c.in_ok-nonfair.ensures)
    c.in-Ok.ensures

pub returns-in-Err : goal.returns-in-Err
returns-in-Err g c =
    let s0 = g.S.StateSets.seen c.args.sets.now in
    let s1 = g.S.StateSets.seen c.copy_layers.new.sets in
    main_refused c.args.at.now (behind_stays c.args.run.now s0 c.requires.live c.in_ok-nonfair.ensures.call.pins (ctl_of c.args.formula.now) c.args.at.now) c.in_ok-nonfair.nonfair
    (subst (λ (ls : List RunLayer). IsMade layers_own layers_seen many s0 s1 (map written_layer (layer_views s0 ls)) (Ok c.in_ok-nonfair.nonfair)) c.deref.ensures.value c.in_ok-nonfair.ensures)
    c.in-Err.ensures c.release_layers.ensures.pins c.release_layers.ensures.fulls
