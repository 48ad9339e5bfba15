use Rattle.std.proofs.Common.{sym, ◌∙◌, ap, [], ◌∷◌, ◌++◌}
use Rattle.smv_instantiate.proofs.ProcessSteps.{take_at}
use Rattle.smv_instantiate.proofs.models.copied_symbols.Goals as goal

pub loop-place-preserved : goal.loop-place-preserved
loop-place-preserved c =
    let x = c.name_at.result.now in
    c.in_ok-push.ensures.items
    ∙ ap (λ y. c.loop-place.names.items ++ (y ∷ [])) (c.new.ensures ∙ c.in_ok-from_str.ensures.ok)
    ∙ ap (λ ys. ys ++ (x ∷ [])) c.loop-place.invariant
    ∙ sym (take_at c.args.symbols.now c.loop-place.place x c.name_at.ensures)
