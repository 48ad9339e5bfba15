use Rattle.std.proofs.Common.{true, length, ◌∙◌, subst}
use Rattle.std.proofs.lemmas.List.{length-map}
use Rattle.kripke_model.specs.Signs.{node_count}
use Rattle.kripke_model.specs.WellFormed.{ctl_of}
use Rattle.region_sets.specs.declared.pins.Pin.{Pin}
use Rattle.region_sets.specs.Ranks.{regions}
use Rattle.region_sets.specs.Sets.{has_state, region}
use Rattle.fair_fixpoint.specs.SatSets.{node_of}
use Rattle.rank_extract.specs.Given.{wanted}
use Rattle.rank_extract.specs.Made.{IsMade, entries_own, entries_seen, entry_size, total}
use Rattle.rank_extract.proofs.FreeCalls.{entries_are, entries_call, nodes_hold}
use Rattle.rank_extract.proofs.free_part.formula_entries.Goals as goal

pub returns-clause-call : goal.returns-clause-call
returns-clause-call g c =
    let s0 = g.S.StateSets.seen c.args.sets.now in
    let s1 = g.S.StateSets.seen c.nodes_over.new.sets in
    let s2 = g.S.StateSets.seen c.all_entries-own.new.sets in
    let f = ctl_of c.args.formula.now in
    entries_call s0.over (regions s0 c.args.visits.now) (region s0 c.args.within.now) c.args.fair.now f s0 s1 s2 (g.S.StateSets.seen c.release_nodes-2.new.sets) c.in_ok-nodes.nodes.items
    (length-map c.args.visits.now (λ (p : Pin). has_state (s0.pins p.slot)) ∙ c.requires.one) c.requires.fair
    (nodes_hold s0.over (node_count f) (length c.args.visits.now) s0 s1 c.requires.one c.in_ok-nodes.ensures.call) c.in_ok-nodes.ensures.nodes
    c.all_entries-own.result
    (subst (λ ns. IsMade entries_own entries_seen (total entry_size) s1 s2 (wanted (region s1 c.args.fair.now) (node_of s1 ns) f 1 true true) c.all_entries-own.result) c.deref.ensures.value c.all_entries-own.ensures)
    c.release_nodes-2.ensures.pins c.release_nodes-2.ensures.fulls

pub returns-clause-entries : goal.returns-clause-entries
returns-clause-entries g c =
    let s0 = g.S.StateSets.seen c.args.sets.now in
    let s1 = g.S.StateSets.seen c.nodes_over.new.sets in
    let s2 = g.S.StateSets.seen c.all_entries-own.new.sets in
    let f = ctl_of c.args.formula.now in
    entries_are s0.over (regions s0 c.args.visits.now) (region s0 c.args.within.now) c.args.fair.now f s0 s1 s2 (g.S.StateSets.seen c.release_nodes-2.new.sets) c.in_ok-nodes.nodes.items
    (length-map c.args.visits.now (λ (p : Pin). has_state (s0.pins p.slot)) ∙ c.requires.one) c.requires.fair
    (nodes_hold s0.over (node_count f) (length c.args.visits.now) s0 s1 c.requires.one c.in_ok-nodes.ensures.call) c.in_ok-nodes.ensures.nodes
    c.all_entries-own.result
    (subst (λ ns. IsMade entries_own entries_seen (total entry_size) s1 s2 (wanted (region s1 c.args.fair.now) (node_of s1 ns) f 1 true true) c.all_entries-own.result) c.deref.ensures.value c.all_entries-own.ensures)
    c.release_nodes-2.ensures.pins c.release_nodes-2.ensures.fulls
