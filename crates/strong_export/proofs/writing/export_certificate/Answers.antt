use Rattle.std.proofs.Common.{◌∙◌, subst}
use Rattle.std.proofs.lemmas.Result.{IfOk-weaker}
use Rattle.diagram_sets.specs.Kept.{diagram_sets}
use Rattle.region_sets.specs.Sets.{Sets}
use Rattle.strong_export.specs.Numbered.{HasSets}
use Rattle.strong_export.proofs.Listed.{shown_over}
use Rattle.strong_export.proofs.writing.export_certificate.Goals as goal

pub returns-in_ok-list-in-Ok-clause-shown : goal.returns-in_ok-list-in-Ok-clause-shown
returns-in_ok-list-in-Ok-clause-shown c = λ m pairs over order shows.
    let old = c.args.sets.now in
    let sets : Sets = diagram_sets old.parts old.pins old.fulls in
    let list = c.in_ok-list-in-Ok.list in
    IfOk-weaker c.numbered.result _ _
    (λ q is. shown_over m pairs sets over order c.args.certificate shows list c.deref.result.now q
    (subst (λ ps. HasSets sets ps list) c.move_sets.ensures c.in_ok-list-in-Ok.ensures.listed)
    (c.deref.ensures.value ∙ c.in-Ok.ensures.reasons) is) c.numbered.ensures
