use Rattle.std.proofs.Common.{◌≡◌, ◌<◌, ◌++◌, length, get_or, map, arith, sym, ◌∙◌, ap}
use Rattle.std.proofs.lemmas.Result.{on_ok_weaker}
use Rattle.smv_parser.specs.Tree as tree
use Rattle.smv_parser.specs.View.{form, tree_of, arm_pair}
use Rattle.smv_parser.proofs.Views.{path_form, braces_form, case_form}
use Rattle.smv_instances.specs.Abstract as abstract
use Rattle.smv_instances.specs.Program.{Path}
use Rattle.smv_names.specs.Abbreviations.{mentions, element_mentions, arm_mentions, index_mentions}
use Rattle.smv_names.specs.Mentions.{plain_mention}
use Rattle.smv_names.specs.Written.{plain_path}
use Rattle.smv_names.proofs.MentionLemmas.{path_added, elements_added, arms_added, parts_added}
use Rattle.smv_names.proofs.mentions.+mentions.Goals as goal

pub push_mentions-returns-in_ok-push-in-Path : goal.push_mentions-returns-in_ok-push-in-Path
push_mentions-returns-in_ok-push-in-Path t c = on_ok_weaker c.push_index_mentions.result
    (λ e. path_added c.args.mentions.now.items c.push.new.self.items _ _ (index_mentions (plain_path c.in-Path.path)) c.in_ok-push-in-Path.ensures.items e
    ∙ ap (λ z. map plain_mention c.args.mentions.now.items ++ mentions (abstract.form_expr z)) (sym (ap (λ z. form z) c.in-Path.is ∙ path_form c.in-Path.path)))
    c.push_index_mentions.ensures

pub push_mentions-returns-in-Braces : goal.push_mentions-returns-in-Braces
push_mentions-returns-in-Braces t c = on_ok_weaker c.push_elements.result
    (λ e. e ∙ ap (λ z. map plain_mention c.args.mentions.now.items ++ element_mentions (abstract.exprs (tree.trees_of (map tree_of z)))) c.deref-in-Braces.ensures.value
    ∙ ap (λ z. map plain_mention c.args.mentions.now.items ++ mentions (abstract.form_expr z)) (sym (ap (λ z. form z) c.in-Braces.is ∙ braces_form c.in-Braces.elements)))
    c.push_elements.ensures

pub push_mentions-returns-in-Case : goal.push_mentions-returns-in-Case
push_mentions-returns-in-Case t c = on_ok_weaker c.push_arms.result
    (λ e. e ∙ ap (λ z. map plain_mention c.args.mentions.now.items ++ arm_mentions (abstract.arms (tree.arms_of (map arm_pair z)))) c.deref-in-Case.ensures.value
    ∙ ap (λ z. map plain_mention c.args.mentions.now.items ++ mentions (abstract.form_expr z)) (sym (ap (λ z. form z) c.in-Case.is ∙ case_form c.in-Case.arms)))
    c.push_arms.ensures

pub push_arms-loop-arm-preserved : goal.push_arms-loop-arm-preserved
push_arms-loop-arm-preserved t c =
    arms_added (map plain_mention c.args.mentions.now.items) c.args.arms.now c.loop-arm.arm-index c.arm-item.result
    (map plain_mention c.loop-arm.mentions.items) (map plain_mention c.push_mentions.new.mentions.items) (map plain_mention c.push_mentions-in-loop-arm.new.mentions.items)
    c.loop-arm-test.true c.arm-item.is c.loop-arm.invariant c.in_ok-push_mentions.ensures c.in_ok-push_mentions-2.ensures

pub push_elements-loop-element-preserved : goal.push_elements-loop-element-preserved
push_elements-loop-element-preserved t c =
    elements_added (map plain_mention c.args.mentions.now.items) c.args.elements.now c.loop-element.element-index c.element-item.result
    (map plain_mention c.loop-element.mentions.items) (map plain_mention c.push_mentions.new.mentions.items)
    c.loop-element-test.true c.element-item.is c.loop-element.invariant c.in_ok-push_mentions.ensures

pub push_index_mentions-loop-part-preserved : goal.push_index_mentions-loop-part-preserved
push_index_mentions-loop-part-preserved t c =
    let parts = c.args.path.now.parts.items in
    let k = c.loop-part.part-index in
    let h : k < length parts = omega (arith, c.loop-part-test.true, ap (λ z. length z) c.deref-part-items.ensures.value) in
    let is : c.part-item.result ≡ get_or parts k c.part-item.result = c.part-item.is ∙ ap (λ z. get_or z k c.part-item.result) c.deref-part-items.ensures.value in
    parts_added (map plain_mention c.args.mentions.now.items) (Path.Here c.args.path.now.line c.args.path.now.first) parts k c.part-item.result
    (map plain_mention c.loop-part.mentions.items) (map plain_mention c.push_part.new.mentions.items)
    h is c.loop-part.invariant c.in_ok-push_part.ensures
