use Rattle.std.proofs.Common.{◌≡◌, length, map, Ok, Err, refl, ◌∙◌, subst}
use Rattle.std.proofs.lemmas.List.{length-map}
use Rattle.std.proofs.lemmas.Result.{err_from_is_err_and}
use Rattle.kripke_model.specs.WellFormed.{ctl_of}
use Rattle.region_sets.specs.declared.pins.Pin.{Pin}
use Rattle.region_sets.specs.Sets.{region}
use Rattle.region_sets.specs.Ranks.{regions, list_regions}
use Rattle.fair_fixpoint.specs.Pruned.{part_slots}
use Rattle.fair_fixpoint.specs.Runs.{layer_views}
use Rattle.proof_form.specs.Form.{map_free}
use Rattle.rank_extract.specs.FreeTop.{base_own, base_seen, base_size}
use Rattle.rank_extract.specs.Made.{IsMade}
use Rattle.rank_extract.proofs.FreeTop.{left_live, base_stays, part_made, part_refused, part_stopped}
use Rattle.rank_extract.proofs.Makes.{all_stay}
use Rattle.rank_extract.proofs.free_whole.part_of.Goals as goal

pub all_formulas-requires-clause-fair : goal.all_formulas-requires-clause-fair
all_formulas-requires-clause-fair g c = left_live c.args.pruned.now (g.S.StateSets.seen c.args.sets.now) c.requires.pruned

pub copy_base-requires : goal.copy_base-requires
copy_base-requires g c = all_stay (part_slots c.args.pruned.now) c.in_ok-entries.ensures.call.pins c.requires.pruned

pub returns-in_err-entries : goal.returns-in_err-entries
returns-in_err-entries g c =
    let s0 = g.S.StateSets.seen c.args.sets.now in
    let pruned = c.args.pruned.now in
    let one : length (regions s0 c.args.visits.now) ≡ 1 = length-map c.args.visits.now (λ (q : Pin). region s0 q) ∙ c.requires.one in
    let p = err_from_is_err_and c.from_residual.result c.from_residual.ensures.1 in
    rw (p.1, p.2)
    (part_stopped s0.over (regions s0 c.args.visits.now) one (region s0 c.args.within.now) (region s0 pruned.left) (layer_views s0 pruned.layers.items) (list_regions s0 pruned.reach.items) (map ctl_of c.args.formulas.now)
    (map_free (region (g.S.StateSets.seen c.all_formulas.new.sets))) c.in_err-entries.ensures.call)

pub returns-in-Ok : goal.returns-in-Ok
returns-in-Ok g c =
    let s0 = g.S.StateSets.seen c.args.sets.now in
    let s1 = g.S.StateSets.seen c.all_formulas.new.sets in
    let s2 = g.S.StateSets.seen c.copy_base.new.sets in
    let pruned = c.args.pruned.now in
    let one : length (regions s0 c.args.visits.now) ≡ 1 = length-map c.args.visits.now (λ (q : Pin). region s0 q) ∙ c.requires.one in
    part_made s0.over (regions s0 c.args.visits.now) one (region s0 c.args.within.now) (region s0 pruned.left) (layer_views s0 pruned.layers.items) (list_regions s0 pruned.reach.items) (map ctl_of c.args.formulas.now)
    c.requires.base c.in_ok-entries.entries c.in_ok-entries.ensures.call c.in_ok-entries.ensures.entries c.in-Ok.base _ _ (map_free (region s2))
    (subst (λ v. IsMade base_own base_seen base_size s1 s2 v (Ok c.in-Ok.base)) (base_stays pruned s0 c.requires.pruned c.in_ok-entries.ensures.call.pins) c.in-Ok.ensures)
    refl refl

pub returns-in-Err : goal.returns-in-Err
returns-in-Err g c =
    let s0 = g.S.StateSets.seen c.args.sets.now in
    let s1 = g.S.StateSets.seen c.all_formulas.new.sets in
    let s2 = g.S.StateSets.seen c.copy_base.new.sets in
    let pruned = c.args.pruned.now in
    let one : length (regions s0 c.args.visits.now) ≡ 1 = length-map c.args.visits.now (λ (q : Pin). region s0 q) ∙ c.requires.one in
    part_refused s0.over (regions s0 c.args.visits.now) one (region s0 c.args.within.now) (region s0 pruned.left) (layer_views s0 pruned.layers.items) (list_regions s0 pruned.reach.items) (map ctl_of c.args.formulas.now)
    c.requires.base c.in_ok-entries.entries c.in_ok-entries.ensures.call c.in_ok-entries.ensures.entries (map_free (region (g.S.StateSets.seen c.release_free_entries.new.sets)))
    (subst (λ v. IsMade base_own base_seen base_size s1 s2 v (Err c.in-Err.refusal)) (base_stays pruned s0 c.requires.pruned c.in_ok-entries.ensures.call.pins) c.in-Err.ensures)
    c.release_free_entries.ensures.pins c.release_free_entries.ensures.fulls
