use Rattle.std.proofs.Common.{◌∷◌, sym, ◌∙◌, ap}
use Rattle.std.specs.Prelude.{flat_map}
use Rattle.proof_form.specs.Filling.{lists_of}
use Rattle.proof_form.specs.Form.{fair_sets}
use Rattle.block_proofs.proofs.Marked.{marked_parts}
use Rattle.block_proofs.proofs.marking.mark_fair.Goals as goal

pub returns : goal.returns
returns c =
    marked_parts (fair_sets c.args.part.now) (ap fair_sets (sym c.part.view_is) ∙ ap (λ ls. c.part.inside.inside ∷ flat_map (λ sets. sets) (lists_of ls)) (sym c.deref.ensures.value))
    c.mark.ensures c.mark_lists.ensures
