use Rattle.std.proofs.Common.{◌≡◌, true, List, Ok, ◌∙◌, ap, subst}
use Rattle.std.specs.Global.{Vec}
use Rattle.region_sets.specs.declared.pins.Pin.{Pin}
use Rattle.region_sets.specs.Sets.{is_one_of, region}
use Rattle.region_sets.specs.Ranks.{slots, regions, lists_slots, list_regions}
use Rattle.rank_extract.specs.Made.{IsMade, fair_of, fair_own, fair_seen, fair_size}
use Rattle.rank_extract.proofs.Makes.{all_stay, regions_stay}
use Rattle.rank_extract.proofs.RuleLive.{inside_live, reach_live, until_live}
use Rattle.rank_extract.proofs.RuleParts.{er_made, er_refused}
use Rattle.rank_extract.proofs.rules.layered_rule.Goals as goal

pub copy_fair-requires-clause-inside : goal.copy_fair-requires-clause-inside
copy_fair-requires-clause-inside g c = inside_live (g.S.StateSets.seen c.args.sets.now) c.args.layered.now c.requires

pub copy_fair-requires-clause-reach : goal.copy_fair-requires-clause-reach
copy_fair-requires-clause-reach g c = λ k h.
    reach_live (g.S.StateSets.seen c.args.sets.now) c.args.layered.now c.requires k (subst (λ (ls : List (Vec Pin)). is_one_of k (lists_slots ls) ≡ true) c.deref.ensures.value h)

pub copy_list-requires : goal.copy_list-requires
copy_list-requires g c = λ k h.
    all_stay (slots c.args.layered.now.until.items) c.in_ok-fair.ensures.call.pins (until_live (g.S.StateSets.seen c.args.sets.now) c.args.layered.now c.requires) k
    (subst (λ (ps : List Pin). is_one_of k (slots ps) ≡ true) c.deref-2.ensures.value h)

pub returns-in-Ok : goal.returns-in-Ok
returns-in-Ok g c =
    let s0 = g.S.StateSets.seen c.args.sets.now in
    let s1 = g.S.StateSets.seen c.copy_fair.new.sets in
    let l = c.args.layered.now in
    er_made c.in_ok-fair.fair c.in-Ok.untils (ap (regions s1) c.deref-2.ensures.value ∙ regions_stay l.until.items c.in_ok-fair.ensures.call.pins (until_live s0 l c.requires))
    (subst (λ (ls : List (Vec Pin)). IsMade fair_own fair_seen fair_size s0 s1 (fair_of (region s0 l.inside) (list_regions s0 ls)) (Ok c.in_ok-fair.fair)) c.deref.ensures.value c.in_ok-fair.ensures)
    c.in-Ok.ensures

pub returns-in-Err : goal.returns-in-Err
returns-in-Err g c =
    let s0 = g.S.StateSets.seen c.args.sets.now in
    let s1 = g.S.StateSets.seen c.copy_fair.new.sets in
    let l = c.args.layered.now in
    er_refused c.in_ok-fair.fair (ap (regions s1) c.deref-2.ensures.value ∙ regions_stay l.until.items c.in_ok-fair.ensures.call.pins (until_live s0 l c.requires))
    (subst (λ (ls : List (Vec Pin)). IsMade fair_own fair_seen fair_size s0 s1 (fair_of (region s0 l.inside) (list_regions s0 ls)) (Ok c.in_ok-fair.fair)) c.deref.ensures.value c.in_ok-fair.ensures)
    c.in-Err.ensures c.release.ensures.pins c.release.ensures.fulls
