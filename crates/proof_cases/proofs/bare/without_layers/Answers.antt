use Rattle.std.proofs.Common.{List, ◌++◌, sym, subst}
use Rattle.region_sets.specs.declared.pins.Pin.{Pin}
use Rattle.region_sets.specs.Ranks.{slots}
use Rattle.proof_form.specs.Form.{Layer, Proof, entries_sets, fair_sets, free_sets_of, layer_sets}
use Rattle.proof_form.specs.Pinned.{proof_slots}
use Rattle.proof_cases.specs.LetGo.{HasPins, Lessens}
use Rattle.proof_cases.proofs.Stripped.{entries_held, layers_held, proof_less}
use Rattle.proof_cases.proofs.bare.without_layers.Goals as goal

pub release_layers-requires-clause-live : goal.release_layers-requires-clause-live
release_layers-requires-clause-live g c =
    let p = c.proof.inside in
    (layers_held (g.S.StateSets.seen c.args.sets.now) (free_sets_of p.free) (layer_sets p.nonfair.items) (fair_sets p.fair) (entries_sets p.entries.items)
    (subst (λ (q : Proof Pin). HasPins (g.S.StateSets.seen c.args.sets.now) (proof_slots q)) (sym c.proof.view_is) c.requires)).live

pub release_layers-requires-clause-once : goal.release_layers-requires-clause-once
release_layers-requires-clause-once g c =
    let p = c.proof.inside in
    (layers_held (g.S.StateSets.seen c.args.sets.now) (free_sets_of p.free) (layer_sets p.nonfair.items) (fair_sets p.fair) (entries_sets p.entries.items)
    (subst (λ (q : Proof Pin). HasPins (g.S.StateSets.seen c.args.sets.now) (proof_slots q)) (sym c.proof.view_is) c.requires)).once

pub strip_entries-requires : goal.strip_entries-requires
strip_entries-requires g c =
    let p = c.proof.inside in
    entries_held (free_sets_of p.free) (layer_sets p.nonfair.items) (fair_sets p.fair) (entries_sets p.entries.items)
    (subst (λ (q : Proof Pin). HasPins (g.S.StateSets.seen c.args.sets.now) (proof_slots q)) (sym c.proof.view_is) c.requires) c.release_layers.ensures.pins

pub returns : goal.returns
returns g c =
    let a = g.S.StateSets.seen c.args.sets.now in
    let z = g.S.StateSets.seen c.strip_entries.new.sets in
    let p = c.proof.inside in
    let new : List Pin = entries_sets c.strip_entries.new.entries.items in
    subst (λ (q : Proof Pin). Lessens a z (proof_slots q) (slots (free_sets_of p.free ++ (layer_sets c.new.result.items ++ (fair_sets p.fair ++ new))))) c.proof.view_is
    (subst (λ (ls : List (Layer Pin)). Lessens a z (slots (free_sets_of p.free ++ (layer_sets p.nonfair.items ++ (fair_sets p.fair ++ entries_sets p.entries.items)))) (slots (free_sets_of p.free ++ (layer_sets ls ++ (fair_sets p.fair ++ new)))))
    (sym c.new.ensures.items)
    (proof_less (free_sets_of p.free) (layer_sets p.nonfair.items) (fair_sets p.fair) (entries_sets p.entries.items) new c.release_layers.ensures.pins c.strip_entries.ensures))
