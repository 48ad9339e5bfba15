use Rattle.std.proofs.Common.{◌≡◌, ℕ, ◌+◌, List, length, refl, sym, ap, subst, arith}
use Rattle.std.specs.Prelude.{Bool}
use Rattle.kripke_model.specs.System.{System, Assignment}
use Rattle.kripke_model.specs.Static.{Graph}
use Rattle.smv_static.specs.Numbers.{row, IsBelow}
use Rattle.smv_static.specs.Circles.{IsCircular, IsFound}
use Rattle.smv_static.proofs.CycleFacts.{processes_in, base_below, among_circular, same_flags}
use Rattle.smv_static.proofs.CircleLemmas.{found_in_graph, clear_in_graph}
use Rattle.smv_static.proofs.LeastLemmas.{among_both}
use Rattle.smv_static.proofs.cycles.least_at_start.Goals as goal

pub on_cycles-requires-clause-base : goal.on_cycles-requires-clause-base
on_cycles-requires-clause-base c =
    let t = c.args.tables.now in
    subst (λ (rows : List (List ℕ)). IsBelow t.variables rows) (sym c.deref.ensures.value) (base_below c.args.flat.now c.requires.flat t.groups.items t.base.items t.processes t.variables c.requires.tables)

pub on_cycles-requires-clause-extra : goal.on_cycles-requires-clause-extra
on_cycles-requires-clause-extra c = subst (λ (rows : List (List ℕ)). IsBelow c.args.tables.now.variables rows) (sym c.deref-2.ensures.value) c.in_ok-extra.ensures.below

pub returns-clause-found : goal.returns-clause-found
returns-clause-found c =
    let m : System = c.args.flat.now in
    let t = c.args.tables.now in
    let q : ℕ = t.processes + 1 in
    let groups : List (List ℕ) = t.groups.items in
    let base : List (List ℕ) = t.base.items in
    let extra : List (List ℕ) = c.in_ok-extra.extra.items in
    let flags : List Bool = c.in_ok-flags.flags.items in
    let are = same_flags c.deref.result.now c.deref-2.result.now base extra flags c.deref.ensures.value c.deref-2.ensures.value c.in_ok-flags.ensures in
    let bound : ℕ = length c.assigns_of-count.result.now in
    let mid : ℕ = c.least_of_group-least.result in
    let least : ℕ = c.least_of_group.result in
    let count : bound ≡ length m.assigns = ap (λ (xs : List Assignment). length xs) c.assigns_of-count.ensures in
    subst (λ (n : ℕ). IsFound m n least) count
    (found_in_graph m t.processes q Graph.AtStart refl (processes_in m t.processes c.requires.flat c.requires.tables.processes_are) groups base extra c.requires.tables.grouped c.requires.tables.table c.in_ok-extra.ensures.table bound least
    (among_both (IsCircular base extra) m.assigns (row groups q) (row groups t.processes) bound mid least
    (among_circular base extra flags c.deref-3.result.now m.assigns (row groups q) bound mid are c.deref-3.ensures.value c.least_of_group-least.ensures)
    (among_circular base extra flags c.deref-4.result.now m.assigns (row groups t.processes) mid least are c.deref-4.ensures.value c.least_of_group.ensures))
    c.requires.twice c.requires.beside)

pub returns-clause-clear : goal.returns-clause-clear
returns-clause-clear c =
    let m : System = c.args.flat.now in
    let t = c.args.tables.now in
    let q : ℕ = t.processes + 1 in
    let groups : List (List ℕ) = t.groups.items in
    let base : List (List ℕ) = t.base.items in
    let extra : List (List ℕ) = c.in_ok-extra.extra.items in
    let flags : List Bool = c.in_ok-flags.flags.items in
    let are = same_flags c.deref.result.now c.deref-2.result.now base extra flags c.deref.ensures.value c.deref-2.ensures.value c.in_ok-flags.ensures in
    let bound : ℕ = length c.assigns_of-count.result.now in
    let mid : ℕ = c.least_of_group-least.result in
    let least : ℕ = c.least_of_group.result in
    let count : bound ≡ length m.assigns = ap (λ (xs : List Assignment). length xs) c.assigns_of-count.ensures in
    clear_in_graph m t.processes q Graph.AtStart refl (processes_in m t.processes c.requires.flat c.requires.tables.processes_are) groups base extra c.requires.tables.grouped c.requires.tables.table c.in_ok-extra.ensures.table bound least
    (among_both (IsCircular base extra) m.assigns (row groups q) (row groups t.processes) bound mid least
    (among_circular base extra flags c.deref-3.result.now m.assigns (row groups q) bound mid are c.deref-3.ensures.value c.least_of_group-least.ensures)
    (among_circular base extra flags c.deref-4.result.now m.assigns (row groups t.processes) mid least are c.deref-4.ensures.value c.least_of_group.ensures))
    (omega (arith, count))
