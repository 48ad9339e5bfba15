use Rattle.std.proofs.Common.{◌≡◌, ℕ, ◌<◌, List, length, sym, ◌∙◌, ap, subst, arith}
use Rattle.std.specs.Prelude.{All}
use Rattle.kripke_model.specs.System.{Assignment}
use Rattle.smv_static.specs.Numbers.{row}
use Rattle.smv_static.proofs.FlatLemmas.{few_assigns}
use Rattle.smv_static.proofs.CycleFacts.{places_known}
use Rattle.smv_static.proofs.cycles.make_tables.Goals as goal

pub grouped-requires-clause-few : goal.grouped-requires-clause-few
grouped-requires-clause-few c =
    let few = few_assigns c.args.flat.now c.requires in
    let same : length c.assigns_of-assigns.result.now ≡ length c.args.flat.now.assigns = ap (λ (xs : List Assignment). length xs) c.assigns_of-assigns.ensures in
    omega (arith, few, same)

pub table-requires-clause-places : goal.table-requires-clause-places
table-requires-clause-places c =
    let P : ℕ = c.process_count-processes.result in
    let own = c.row_at.ensures ∙ ap (λ (g : List (List ℕ)). row g P) c.deref.ensures.value in
    subst (λ (ps : List ℕ). All (λ k. k < length c.assigns_of-assigns.result.now) ps) (sym own) (places_known P c.assigns_of-assigns.result.now c.in_ok-groups.groups.items c.in_ok-groups.ensures.grouped P)
