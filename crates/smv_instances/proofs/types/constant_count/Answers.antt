use Rattle.std.proofs.Common.{◌≡◌, sym, ◌∙◌, ap, ◌+◌, ◌<◌, ◌≤◌, arith, not, ◌||◌, length, map, take, get_or}
use Rattle.std.specs.List.{list_any, filter_map}
use Rattle.std.proofs.lemmas.List.{length-map}
use Rattle.std.proofs.lemmas.List.Folds.{list_any_more}
use Rattle.smv_instances.specs.Plain.{plain_constant}
use Rattle.smv_instances.specs.Instances.{atom, value_of}
use Rattle.kripke_model.specs.Evaluation.{distinct}
use Rattle.smv_instances.specs.Declarations.{one_if}
use Rattle.smv_instances.specs.Constants.{is_same}
use Rattle.smv_instances.proofs.TableLemmas.{get_or-map}
use Rattle.smv_instances.proofs.ConstantLemmas.{known_at, value_step}
use Rattle.smv_instances.proofs.types.constant_count.Goals as goal
use Rattle.smv_instances.proofs.types.constant_count.Goals.{then-branch, else-branch}

pub loop-constant-preserved : goal.loop-constant-preserved
loop-constant-preserved c =
    let cs = map plain_constant c.args.constants.now in
    let i = c.loop-constant.constant-index in
    let item = plain_constant c.constant-item.result in
    let before = c.loop-constant.invariant in
    let lt : i < length cs = omega (arith, length-map c.args.constants.now plain_constant) in
    let at : get_or cs i item ≡ item = get_or-map plain_constant c.args.constants.now i c.constant-item.result item (omega arith) ∙ ap plain_constant (sym c.constant-item.is) in
    let new : c.in_ok-add_constant.field-0 ≡ not (list_any (is_same (get_or cs i item)) (take i cs)) = c.in_ok-add_constant.ensures.added ∙ ap not (before.held item) ∙ ap (λ d. not (list_any (is_same d) (take i cs))) (sym at) in
    let counted : c.if-branch.count ≡ c.loop-constant.count + one_if c.in_ok-add_constant.field-0 = elim c.if-branch.branch [ then-branch w ↦ omega (arith, ap one_if w.if-branch.true) | else-branch w ↦ omega (arith, ap one_if w.if-branch.false) ] in
    let few : c.if-branch.count ≤ i + 1 = elim c.if-branch.branch [ then-branch w ↦ omega arith | else-branch w ↦ omega arith ] in
    record {
      few = few;
      counted = counted ∙ ap (λ n. n + one_if c.in_ok-add_constant.field-0) before.counted ∙ ap (λ b. length (distinct (map (value_of (filter_map atom cs)) (take i cs))) + one_if b) new ∙ sym (value_step (filter_map atom cs) cs i item lt (known_at cs i item lt));
      held = λ d. c.in_ok-add_constant.ensures.kept d ∙ ap (λ b. b || is_same d item) (before.held d) ∙ ap (λ e. list_any (is_same d) (take i cs) || is_same d e) (sym at) ∙ sym (list_any_more (is_same d) cs i item lt);
    }
