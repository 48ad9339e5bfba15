use Rattle.std.proofs.Common.{◌≡◌, sym, ◌∙◌, ap, subst, arith, ◌++◌}
use Rattle.std.specs.Prelude.{All, map}
use Rattle.smv_instantiate.specs.Items.{plain_item}
use Rattle.smv_instantiate.specs.Parts.{AreParts}
use Rattle.smv_instantiate.specs.Passes.{IsExpandable, placed}
use Rattle.smv_instantiate.proofs.PassLemmas.{scope_there}
use Rattle.smv_instantiate.proofs.PassSteps.{all_before, before_next, body_items, items_before, placed_body, ready_body}
use Rattle.smv_instantiate.proofs.parts.parts_of.Goals as goal

pub loop-i-init : goal.loop-i-init
loop-i-init c = λ p tables ready. c.no_parts-parts.ensures p

pub module-requires : goal.module-requires
module-requires c = let r = c.requires in (r.0, r.1.instances_are, omega (arith, c.loop-i-test.true, c.len-i-end.ensures r.0 r.1.instances_are))

pub push_body-requires : goal.push_body-requires
push_body-requires c =
    let r = c.requires in
    let there = scope_there r.0 c.loop-i.i (omega (arith, c.loop-i-test.true, c.len-i-end.ensures r.0 r.1.instances_are)) in
    let own : placed there.0 c.deref.result.now ≡ body_items there.0 =
    placed_body there.0 c.deref.result.now _ (ap (map plain_item) c.deref.ensures.value ∙ c.in_ok-items.ensures) (c.module.ensures r.0 there.0 r.1.instances_are there.1) in
    (r.0, there.0, r.1, there.1, subst (λ ys. All (IsExpandable r.0) ys) (sym own) (ready_body r.0 c.loop-i.i there.0 there.1 (IsExpandable r.0) r.2))

pub loop-i-preserved : goal.loop-i-preserved
loop-i-preserved c = λ p tables ready.
    let there = scope_there p c.loop-i.i (omega (arith, c.loop-i-test.true, c.len-i-end.ensures p tables.instances_are)) in
    let own : placed there.0 c.deref.result.now ≡ body_items there.0 =
    placed_body there.0 c.deref.result.now _ (ap (map plain_item) c.deref.ensures.value ∙ c.in_ok-items.ensures) (c.module.ensures p there.0 tables.instances_are there.1) in
    let all = subst (λ ys. All (IsExpandable p) ys) (sym own) (ready_body p c.loop-i.i there.0 there.1 (IsExpandable p) ready) in
    subst (λ ys. AreParts p ys c.push_body.new.parts) (ap (λ ys. items_before p c.loop-i.i ++ ys) own ∙ sym (before_next p c.loop-i.i there.0 there.1))
    (c.in_ok-push_body.ensures p there.0 (items_before p c.loop-i.i) tables there.1 all (c.loop-i.invariant p tables ready))

pub returns : goal.returns
returns c = λ p tables ready.
    subst (λ ys. AreParts p ys c.loop-i.parts) (all_before p c.loop-i.i (omega (arith, c.loop-i-test.false, c.len-i-end.ensures p tables.instances_are))) (c.loop-i.invariant p tables ready)
