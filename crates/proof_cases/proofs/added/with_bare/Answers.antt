use Rattle.std.proofs.Common.{List, ◌∷◌, ◌++◌, sym, subst}
use Rattle.region_sets.specs.declared.pins.Pin.{Pin}
use Rattle.region_sets.specs.Ranks.{slots}
use Rattle.proof_form.specs.Form.{Proof, entries_sets, fair_sets, free_sets, free_sets_of, layer_sets}
use Rattle.proof_form.specs.Pinned.{proof_slots}
use Rattle.proof_cases.specs.LetGo.{HasPins, Lessens}
use Rattle.proof_cases.proofs.Spare.{first_held, in_place}
use Rattle.proof_cases.proofs.added.with_bare.Goals as goal

pub release_free_part-requires-clause-live : goal.release_free_part-requires-clause-live
release_free_part-requires-clause-live g c =
    let p = c.proof.inside in
    let a = g.S.StateSets.seen c.args.sets.now in
    (first_held a c.args.inside.slot (free_sets_of p.free) (layer_sets p.nonfair.items ++ (fair_sets p.fair ++ entries_sets p.entries.items))
    (subst (λ (q : Proof Pin). HasPins a (c.args.inside.slot ∷ proof_slots q)) (sym c.proof.view_is) c.requires)).live

pub release_free_part-requires-clause-once : goal.release_free_part-requires-clause-once
release_free_part-requires-clause-once g c =
    let p = c.proof.inside in
    let a = g.S.StateSets.seen c.args.sets.now in
    (first_held a c.args.inside.slot (free_sets_of p.free) (layer_sets p.nonfair.items ++ (fair_sets p.fair ++ entries_sets p.entries.items))
    (subst (λ (q : Proof Pin). HasPins a (c.args.inside.slot ∷ proof_slots q)) (sym c.proof.view_is) c.requires)).once

pub returns : goal.returns
returns g c =
    let p = c.proof.inside in
    let a = g.S.StateSets.seen c.args.sets.now in
    let z = g.S.StateSets.seen c.release_free_part.new.sets in
    let rest : List Pin = layer_sets p.nonfair.items ++ (fair_sets p.fair ++ entries_sets p.entries.items) in
    subst (λ (q : Proof Pin). Lessens a z (c.args.inside.slot ∷ proof_slots q) (slots (free_sets c.one_free.result ++ rest))) c.proof.view_is
    (in_place c.args.inside (free_sets_of p.free) (free_sets c.one_free.result) rest c.one_free.ensures c.release_free_part.ensures.pins)
