use Rattle.std.proofs.Common.{ℕ, List, ◌∙◌, ap}
use Rattle.smv_static.specs.Numbers.{row}
use Rattle.smv_static.proofs.CycleFacts.{known_places, places_known, among_same}
use Rattle.smv_static.proofs.cycles.least_of_group.Goals as goal

pub least_flagged-requires : goal.least_flagged-requires
least_flagged-requires c =
    let t = c.args.tables.now in
    known_places c.assigns_of.result.now c.args.flat.now.assigns c.row_at-places.result.now (row t.groups.items c.args.group) c.assigns_of.ensures
    (c.row_at-places.ensures ∙ ap (λ (g : List (List ℕ)). row g c.args.group) c.deref.ensures.value)
    (places_known t.processes c.args.flat.now.assigns t.groups.items c.requires.tables.grouped c.args.group)

pub returns : goal.returns
returns c =
    let t = c.args.tables.now in
    among_same c.args.flags.now c.assigns_of.result.now c.args.flat.now.assigns c.row_at-places.result.now (row t.groups.items c.args.group) c.args.bound c.least_flagged.result c.assigns_of.ensures
    (c.row_at-places.ensures ∙ ap (λ (g : List (List ℕ)). row g c.args.group) c.deref.ensures.value) c.least_flagged.ensures
