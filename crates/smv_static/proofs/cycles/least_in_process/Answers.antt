use Rattle.std.proofs.Common.{◌≡◌, ℕ, ◌≤◌, List, length, get_or, refl, sym, ◌∙◌, ap, subst, arith}
use Rattle.std.specs.Prelude.{Bool}
use Rattle.kripke_model.specs.declared.models.Part.{Part}
use Rattle.kripke_model.specs.System.{System, Assignment}
use Rattle.kripke_model.specs.Static.{Graph}
use Rattle.smv_static.specs.Numbers.{row, IsBelow}
use Rattle.smv_static.specs.Groups.{group_by, IsTable}
use Rattle.smv_static.specs.Circles.{IsCircular, IsClear}
use Rattle.smv_static.proofs.CycleFacts.{processes_in, base_below, among_circular, same_flags}
use Rattle.smv_static.proofs.CircleLemmas.{found_in_graph, clear_in_graph, free_of, clear_as_start, own_clear, clear_by_own}
use Rattle.smv_static.proofs.LeastLemmas.{among_both}
use Rattle.smv_static.proofs.cycles.least_in_process.Goals as goal

pub on_cycles-requires-clause-base : goal.on_cycles-requires-clause-base
on_cycles-requires-clause-base c =
    let t = c.args.tables.now in
    subst (λ (rows : List (List ℕ)). IsBelow t.variables rows) (sym c.deref-2.ensures.value) (base_below c.args.flat.now c.requires.flat t.groups.items t.base.items t.processes t.variables c.requires.tables)

pub on_cycles-requires-clause-extra : goal.on_cycles-requires-clause-extra
on_cycles-requires-clause-extra c = subst (λ (rows : List (List ℕ)). IsBelow c.args.tables.now.variables rows) (sym c.deref-3.ensures.value) c.in_ok-extra.ensures.below

pub returns-then-is_empty-clause-clear : goal.returns-then-is_empty-clause-clear
returns-then-is_empty-clause-clear c =
    let m : System = c.args.flat.now in
    let t = c.args.tables.now in
    let p : ℕ = c.args.p in
    let extra : List (List ℕ) = c.deref.result.now in
    let table = subst (λ (rows : List (List ℕ)). IsTable m.assigns (row t.groups.items p) rows) (sym c.deref.ensures.value) c.in_ok-extra.ensures.table in
    clear_as_start m p (free_of m t.processes p t.groups.items extra c.requires.tables.grouped table (c.is_empty.ensures c.if-is_empty.true)) c.args.bound c.requires.bound c.requires.clear

-- none of its next values lies on a cycle, so its graph has none
pub returns-then-least-assigns_of-clause-clear : goal.returns-then-least-assigns_of-clause-clear
returns-then-least-assigns_of-clause-clear c =
    let m : System = c.args.flat.now in
    let t = c.args.tables.now in
    let p : ℕ = c.args.p in
    let groups : List (List ℕ) = t.groups.items in
    let base : List (List ℕ) = t.base.items in
    let extra : List (List ℕ) = c.in_ok-extra.extra.items in
    let flags : List Bool = c.in_ok-flags.flags.items in
    let are = same_flags c.deref-2.result.now c.deref-3.result.now base extra flags c.deref-2.ensures.value c.deref-3.ensures.value c.in_ok-flags.ensures in
    let least : ℕ = c.least_of_group-least.result in
    let count : length c.assigns_of.result.now ≡ length m.assigns = ap (λ (xs : List Assignment). length xs) c.assigns_of.ensures in
    let last : least ≡ length m.assigns = c.if-least-assigns_of.true ∙ count in
    let among = among_circular base extra flags c.deref-4.result.now m.assigns (row groups p) c.args.bound least are c.deref-4.ensures.value c.least_of_group-least.ensures in
    let whole : c.args.bound ≡ length m.assigns = let most : least ≤ c.args.bound = among.at_most in omega (arith, last, most, c.requires.bound) in
    let own = own_clear m t.processes p (Graph.InProcess p) (refl, c.requires.process) (processes_in m t.processes c.requires.flat c.requires.tables.processes_are) groups base extra c.requires.tables.grouped c.requires.tables.table c.in_ok-extra.ensures.table
    c.args.bound least (omega (arith, last)) among in
    subst (λ (n : ℕ). IsClear m (Graph.InProcess p) n) (sym last)
    (clear_by_own m p (subst (λ (n : ℕ). IsClear m Graph.AtStart n) whole c.requires.clear)
    (λ k d below next process cycle. own k d below (ap (λ (part : Part). group_by t.processes part (get_or m.assigns k d).process) next ∙ process) cycle))

pub returns-clause-found : goal.returns-clause-found
returns-clause-found c =
    let m : System = c.args.flat.now in
    let t = c.args.tables.now in
    let p : ℕ = c.args.p in
    let groups : List (List ℕ) = t.groups.items in
    let base : List (List ℕ) = t.base.items in
    let extra : List (List ℕ) = c.in_ok-extra.extra.items in
    let flags : List Bool = c.in_ok-flags.flags.items in
    let are = same_flags c.deref-2.result.now c.deref-3.result.now base extra flags c.deref-2.ensures.value c.deref-3.ensures.value c.in_ok-flags.ensures in
    let mid : ℕ = c.least_of_group-least.result in
    let least : ℕ = c.least_of_group.result in
    found_in_graph m t.processes p (Graph.InProcess p) (refl, c.requires.process) (processes_in m t.processes c.requires.flat c.requires.tables.processes_are) groups base extra c.requires.tables.grouped c.requires.tables.table c.in_ok-extra.ensures.table c.args.bound least
    (among_both (IsCircular base extra) m.assigns (row groups p) (row groups t.processes) c.args.bound mid least
    (among_circular base extra flags c.deref-4.result.now m.assigns (row groups p) c.args.bound mid are c.deref-4.ensures.value c.least_of_group-least.ensures)
    (among_circular base extra flags c.deref-5.result.now m.assigns (row groups t.processes) mid least are c.deref-5.ensures.value c.least_of_group.ensures))
    c.requires.twice c.requires.beside

pub returns-clause-clear : goal.returns-clause-clear
returns-clause-clear c =
    let m : System = c.args.flat.now in
    let t = c.args.tables.now in
    let p : ℕ = c.args.p in
    let groups : List (List ℕ) = t.groups.items in
    let base : List (List ℕ) = t.base.items in
    let extra : List (List ℕ) = c.in_ok-extra.extra.items in
    let flags : List Bool = c.in_ok-flags.flags.items in
    let are = same_flags c.deref-2.result.now c.deref-3.result.now base extra flags c.deref-2.ensures.value c.deref-3.ensures.value c.in_ok-flags.ensures in
    let mid : ℕ = c.least_of_group-least.result in
    let least : ℕ = c.least_of_group.result in
    clear_in_graph m t.processes p (Graph.InProcess p) (refl, c.requires.process) (processes_in m t.processes c.requires.flat c.requires.tables.processes_are) groups base extra c.requires.tables.grouped c.requires.tables.table c.in_ok-extra.ensures.table c.args.bound least
    (among_both (IsCircular base extra) m.assigns (row groups p) (row groups t.processes) c.args.bound mid least
    (among_circular base extra flags c.deref-4.result.now m.assigns (row groups p) c.args.bound mid are c.deref-4.ensures.value c.least_of_group-least.ensures)
    (among_circular base extra flags c.deref-5.result.now m.assigns (row groups t.processes) mid least are c.deref-5.ensures.value c.least_of_group.ensures))
    c.requires.bound
