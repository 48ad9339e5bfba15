use Rattle.std.proofs.Common.{ℕ, List, ◌++◌, map, sym, ◌∙◌, ap}
use Rattle.proof_form.specs.Form.{FreeEntry, layer_sets, fair_sets, entries_sets, free_sets}
use Rattle.block_proofs.proofs.Marked.{marked_parts}
use Rattle.block_proofs.proofs.marking.mark_free.Goals as goal

pub returns : goal.returns
returns c =
    let entries : List (FreeEntry ℕ) → List ℕ = λ es. entries_sets (map (λ e. e.entry) es) in
    marked_parts (free_sets c.args.part.now)
    (ap free_sets (sym c.part.view_is) ∙ ap (λ ls. layer_sets ls ++ (fair_sets c.part.inside.fair ++ entries c.part.inside.entries.items)) (sym c.deref.ensures.value))
    c.mark_layers.ensures
    (marked_parts (fair_sets c.part.inside.fair ++ entries c.part.inside.entries.items) (ap (λ es. fair_sets c.part.inside.fair ++ entries es) (sym c.deref-2.ensures.value)) c.mark_fair.ensures c.mark_free_entries.ensures)
