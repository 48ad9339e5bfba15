use Rattle.std.proofs.Common.{ℕ, List, ◌∙◌, ap}
use Rattle.kripke_model.specs.System.{System}
use Rattle.smv_static.specs.Numbers.{row}
use Rattle.smv_static.proofs.ResultLemmas.{if_ok}
use Rattle.smv_static.proofs.CycleFacts.{known_places, places_known, same_table, extra_below}
use Rattle.smv_static.proofs.cycles.edges_of.Goals as goal

pub table-requires-clause-places : goal.table-requires-clause-places
table-requires-clause-places c =
    let t = c.args.tables.now in
    known_places c.assigns_of.result.now c.args.flat.now.assigns c.row_at-places.result.now (row t.groups.items c.args.group) c.assigns_of.ensures
    (c.row_at-places.ensures ∙ ap (λ (g : List (List ℕ)). row g c.args.group) c.deref.ensures.value)
    (places_known t.processes c.args.flat.now.assigns t.groups.items c.requires.tables.grouped c.args.group)

pub returns-clause-table : goal.returns-clause-table
returns-clause-table c =
    let t = c.args.tables.now in
    let m : System = c.args.flat.now in
    let own = c.row_at-places.ensures ∙ ap (λ (g : List (List ℕ)). row g c.args.group) c.deref.ensures.value in
    if_ok c.table.result (λ rows h. same_table c.assigns_of.result.now m.assigns c.row_at-places.result.now (row t.groups.items c.args.group) rows.items rows.items c.assigns_of.ensures own (λ i. rows.items) h) c.table.ensures

pub returns-clause-below : goal.returns-clause-below
returns-clause-below c =
    let t = c.args.tables.now in
    let m : System = c.args.flat.now in
    let own = c.row_at-places.ensures ∙ ap (λ (g : List (List ℕ)). row g c.args.group) c.deref.ensures.value in
    if_ok c.table.result (λ rows h.
    extra_below m c.requires.flat t.groups.items t.base.items t.processes t.variables c.requires.tables c.args.group rows.items
    (same_table c.assigns_of.result.now m.assigns c.row_at-places.result.now (row t.groups.items c.args.group) rows.items rows.items c.assigns_of.ensures own (λ i. rows.items) h))
    c.table.ensures
