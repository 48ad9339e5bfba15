use Rattle.std.proofs.Common.{◌≡◌, true, List, Ok, is_none, is_some, ◌∙◌, subst}
use Rattle.std.specs.Global.{Vec}
use Rattle.kripke_model.specs.WellFormed.{ctl_of}
use Rattle.region_sets.specs.declared.pins.Pin.{Pin}
use Rattle.region_sets.specs.Sets.{is_one_of, region}
use Rattle.region_sets.specs.Ranks.{lists_slots, list_regions}
use Rattle.region_sets.proofs.Changes.{stays_live}
use Rattle.fair_fixpoint.specs.declared.runs.NodeRun.{NodeRun}
use Rattle.fair_fixpoint.specs.Runs.{nodes_slots}
use Rattle.fair_fixpoint.specs.SatSets.{node_of}
use Rattle.rank_extract.specs.Given.{wanted}
use Rattle.rank_extract.specs.Made.{IsMade, fair_of, fair_own, fair_seen, fair_size}
use Rattle.rank_extract.proofs.Makes.{all_stay}
use Rattle.rank_extract.proofs.Parts.{none_is, behind_made, behind_refused}
use Rattle.rank_extract.proofs.RunParts.{fair_live, reach_live, nodes_live, entries_stay}
use Rattle.rank_extract.proofs.written.behind_layers.Goals as goal

pub copy_fair-requires-clause-inside : goal.copy_fair-requires-clause-inside
copy_fair-requires-clause-inside g c = fair_live c.args.run.now (g.S.StateSets.seen c.args.sets.now) c.requires.live

pub copy_fair-requires-clause-reach : goal.copy_fair-requires-clause-reach
copy_fair-requires-clause-reach g c = λ k h.
    reach_live c.args.run.now (g.S.StateSets.seen c.args.sets.now) c.requires.live k (subst (λ (ls : List (Vec Pin)). is_one_of k (lists_slots ls) ≡ true) c.deref.ensures.value h)

pub all_entries-requires-clause-fair : goal.all_entries-requires-clause-fair
all_entries-requires-clause-fair g c = stays_live c.in_ok-fair.ensures.call.pins c.args.run.now.fair.slot (fair_live c.args.run.now (g.S.StateSets.seen c.args.sets.now) c.requires.live)

pub all_entries-requires-clause-nodes : goal.all_entries-requires-clause-nodes
all_entries-requires-clause-nodes g c = λ k h.
    all_stay (nodes_slots c.args.run.now.nodes.items) c.in_ok-fair.ensures.call.pins (nodes_live c.args.run.now (g.S.StateSets.seen c.args.sets.now) c.requires.live) k
    (subst (λ (ns : List NodeRun). is_one_of k (nodes_slots ns) ≡ true) c.deref-2.ensures.value h)

pub returns-in-Ok : goal.returns-in-Ok
returns-in-Ok g c =
    let s0 = g.S.StateSets.seen c.args.sets.now in
    let s1 = g.S.StateSets.seen c.copy_fair.new.sets in
    let run = c.args.run.now in
    behind_made c.in_ok-fair.fair c.in-Ok.entries
    ((λ i. wanted (region s1 run.fair) (node_of s1 (c.deref-2.ensures.value i)) (ctl_of c.args.formula.now) 1 (none_is (is_some c.args.at.now) c.is_none.result c.is_none.ensures i) (c.is_some.ensures i))
    ∙ entries_stay run s0 c.requires.live c.in_ok-fair.ensures.call.pins (ctl_of c.args.formula.now) (is_none c.args.at.now) (is_some c.args.at.now))
    (subst (λ (ls : List (Vec Pin)). IsMade fair_own fair_seen fair_size s0 s1 (fair_of (region s0 run.fair) (list_regions s0 ls)) (Ok c.in_ok-fair.fair)) c.deref.ensures.value c.in_ok-fair.ensures)
    c.in-Ok.ensures

pub returns-in-Err : goal.returns-in-Err
returns-in-Err g c =
    let s0 = g.S.StateSets.seen c.args.sets.now in
    let s1 = g.S.StateSets.seen c.copy_fair.new.sets in
    let run = c.args.run.now in
    behind_refused c.in_ok-fair.fair
    ((λ i. wanted (region s1 run.fair) (node_of s1 (c.deref-2.ensures.value i)) (ctl_of c.args.formula.now) 1 (none_is (is_some c.args.at.now) c.is_none.result c.is_none.ensures i) (c.is_some.ensures i))
    ∙ entries_stay run s0 c.requires.live c.in_ok-fair.ensures.call.pins (ctl_of c.args.formula.now) (is_none c.args.at.now) (is_some c.args.at.now))
    (subst (λ (ls : List (Vec Pin)). IsMade fair_own fair_seen fair_size s0 s1 (fair_of (region s0 run.fair) (list_regions s0 ls)) (Ok c.in_ok-fair.fair)) c.deref.ensures.value c.in_ok-fair.ensures)
    c.in-Err.ensures c.release.ensures.pins c.release.ensures.fulls
