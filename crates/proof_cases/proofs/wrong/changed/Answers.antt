use Rattle.std.proofs.Common.{◌++◌, sym, subst}
use Rattle.region_sets.specs.declared.pins.Pin.{Pin}
use Rattle.region_sets.specs.Ranks.{slots}
use Rattle.proof_form.specs.Form.{Proof, entries_sets, fair_sets, free_sets_of, layer_sets}
use Rattle.proof_form.specs.Pinned.{proof_slots}
use Rattle.proof_cases.specs.LetGo.{HasPins, Lessens}
use Rattle.proof_cases.proofs.Stripped.{changed_less, fair_held, free_held}
use Rattle.proof_cases.proofs.wrong.changed.Goals as goal

pub changed_free-free-requires : goal.changed_free-free-requires
changed_free-free-requires g c =
    let p = c.proof.inside in
    free_held (g.S.StateSets.seen c.args.sets.now) (free_sets_of p.free) (layer_sets p.nonfair.items ++ (fair_sets p.fair ++ entries_sets p.entries.items))
    (subst (λ (q : Proof Pin). HasPins (g.S.StateSets.seen c.args.sets.now) (proof_slots q)) (sym c.proof.view_is) c.requires)

pub changed_fair-fair-requires : goal.changed_fair-fair-requires
changed_fair-fair-requires g c =
    let p = c.proof.inside in
    fair_held (free_sets_of p.free) (free_sets_of c.changed_free-free.result) (layer_sets p.nonfair.items) (fair_sets p.fair) (entries_sets p.entries.items) c.changed_free-free.ensures
    (subst (λ (q : Proof Pin). HasPins (g.S.StateSets.seen c.args.sets.now) (proof_slots q)) (sym c.proof.view_is) c.requires)

pub returns : goal.returns
returns g c =
    let a = g.S.StateSets.seen c.args.sets.now in
    let b = g.S.StateSets.seen c.changed_fair-fair.new.sets in
    let p = c.proof.inside in
    let free = free_sets_of c.changed_free-free.result in
    let layers = layer_sets c.change_layers.new.layers.items in
    let fair = fair_sets c.changed_fair-fair.result in
    let entries = entries_sets c.change_entries.new.entries.items in
    subst (λ (q : Proof Pin). Lessens a b (proof_slots q) (slots (free ++ (layers ++ (fair ++ entries))))) c.proof.view_is
    (changed_less (free_sets_of p.free) free (layer_sets p.nonfair.items) (fair_sets p.fair) (entries_sets p.entries.items) c.changed_free-free.ensures layers fair entries
    c.change_layers.ensures c.change_entries.ensures c.changed_fair-fair.ensures)
