use Rattle.std.proofs.Common.{◌∙◌, ◌++◌, ◌∷◌, [], ap, sym}
use Rattle.strong_fair.specs.Form.{sets_of}
use Rattle.strong_export.specs.Parted.{row_pins}
use Rattle.strong_export.proofs.Seen.{seen_pins}
use Rattle.strong_export.proofs.parting.move_sets.Goals as goal

pub returns : goal.returns
returns c =
    let inside = c.certificate.inside.inside in
    let rows = c.certificate.inside.rows.items in
    c.move_rows.ensures
    ∙ ap (λ ps. ps ++ row_pins rows)
    (c.in_default.ensures.items ∙ ap (λ ps. ps ++ inside ∷ []) c.requires.none)
    ∙ ap (λ ps. inside ∷ ps) (sym (seen_pins rows)) ∙ ap sets_of c.certificate.view_is
