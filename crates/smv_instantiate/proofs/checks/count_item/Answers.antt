use Rattle.std.proofs.Common.{◌≡◌, refl, sym, ◌∙◌, ap, subst, [], ◌∷◌, ◌++◌}
use Rattle.std.proofs.lemmas.Result.{err_from_is_err_and}
use Rattle.kripke_model.specs.Refusing.{Silent}
use Rattle.smv_parser.specs.View.{tree_of}
use Rattle.smv_instances.specs.Abstract.{stated}
use Rattle.smv_instances.specs.Answers.{Refused}
use Rattle.smv_instantiate.specs.declared.items.Item.{Item as Held}
use Rattle.smv_instantiate.specs.Flattens.{Item}
use Rattle.smv_instantiate.specs.Items.{plain_assigned, plain_item}
use Rattle.smv_instantiate.specs.Passes.{AreCounts, CountsItem, HasLeft, own_rows}
use Rattle.smv_instantiate.specs.Refuses.{item_line}
use Rattle.smv_instantiate.proofs.ItemLemmas.{stated_kind}
use Rattle.smv_instantiate.proofs.PassLemmas.{condition_counted, counts_kept}
use Rattle.smv_instantiate.proofs.checks.count_item.Goals as goal

pub returns-in_err-check_left-in-Assigns : goal.returns-in_err-check_left-in-Assigns
returns-in_err-check_left-in-Assigns c = λ p s before tables at counts.
    let q = err_from_is_err_and c.from_residual.result c.from_residual.ensures.1 in
    rw (q.1, q.2)
    (subst (λ (i : Held). Refused (own_rows p (before ++ ((s, plain_item i) ∷ [])) s (plain_item i)) c.in_err-check_left-in-Assigns.field-0.0) (sym c.in-Assigns.is) (c.in_err-check_left-in-Assigns.ensures p s tables at))

pub returns-in_ok-check_left-in-Assigns : goal.returns-in_ok-check_left-in-Assigns
returns-in_ok-check_left-in-Assigns c = λ p s before tables at counts.
    let left = c.in_ok-check_left-in-Assigns.ensures p s tables at in
    let totals = c.args.totals.now in
    subst (λ (i : Held). AreCounts totals (before ++ ((s, plain_item i) ∷ [])) × (totals.nodes ≡ totals.nodes) × HasLeft p s (plain_item i) × Silent (own_rows p (before ++ ((s, plain_item i) ∷ [])) s (plain_item i))) (sym c.in-Assigns.is)
    (counts_kept totals before (s, Item.Assigns (plain_assigned c.in-Assigns.assignment.now)) refl refl counts, refl, left.0, left.1)

pub returns-in-States : goal.returns-in-States
returns-in-States c = λ p s before tables at counts.
    let condition = stated c.in-States.condition c.in-States.line (tree_of c.in-States.expr.now) in
    subst (λ (i : Held). CountsItem p before s (plain_item i) c.args.totals.now c.count_condition.result) (sym c.in-States.is)
    (condition_counted p before s condition c.args.totals.now c.count_condition.result
    (c.count_condition.ensures before s condition (stated_kind c.in-States.condition c.in-States.line (tree_of c.in-States.expr.now)) (sym (c.line.ensures ∙ ap (λ (i : Held). item_line (plain_item i)) c.in-States.is)) counts))
