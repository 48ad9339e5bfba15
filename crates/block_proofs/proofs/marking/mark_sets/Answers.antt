use Rattle.std.proofs.Common.{◌++◌, sym, ap}
use Rattle.proof_form.specs.Form.{layer_sets, fair_sets, entries_sets, sets_of}
use Rattle.block_proofs.proofs.Marked.{marked_parts}
use Rattle.block_proofs.proofs.marking.mark_sets.Goals as goal

pub returns : goal.returns
returns c =
    let rest = fair_sets c.proof.inside.fair ++ entries_sets c.proof.inside.entries.items in
    marked_parts (sets_of c.args.proof.now) (ap sets_of (sym c.proof.view_is)) c.mark_free_part.ensures
    (marked_parts (layer_sets c.proof.inside.nonfair.items ++ rest) (ap (λ ls. layer_sets ls ++ rest) (sym c.deref.ensures.value)) c.mark_layers.ensures
    (marked_parts rest (ap (λ es. fair_sets c.proof.inside.fair ++ entries_sets es) (sym c.deref-2.ensures.value)) c.mark_fair.ensures c.mark_entries.ensures))
