use Rattle.std.proofs.Common.{◌≡◌, sym, subst, arith, ◌++◌, take, append-nil}
use Rattle.smv_instances.proofs.ListSteps.{take_whole}
use Rattle.smv_instantiate.specs.Parts.{AreParts}
use Rattle.smv_instantiate.specs.Passes.{IsExpandable, placed}
use Rattle.smv_instantiate.proofs.Members.{all_in}
use Rattle.smv_instantiate.proofs.PassSteps.{placed_in, placed_more}
use Rattle.smv_instantiate.proofs.parts.push_body.Goals as goal

pub loop-item-init : goal.loop-item-init
loop-item-init c = λ p s before tables at ready are. subst (λ ys. AreParts p ys c.args.parts.now) (sym (append-nil before)) are

pub push_item-requires : goal.push_item-requires
push_item-requires c =
    let r = c.requires in
    (r.0, r.1, r.2, r.3, all_in (IsExpandable r.0) (placed r.1 c.args.items.now) r.4 (placed_in r.1 c.args.items.now c.loop-item.item-index c.item-item.result c.loop-item-test.true c.item-item.is))

pub loop-item-preserved : goal.loop-item-preserved
loop-item-preserved c = λ p s before tables at ready are.
    let known = c.loop-item.invariant p s before tables at ready are in
    let one = all_in (IsExpandable p) (placed s c.args.items.now) ready (placed_in s c.args.items.now c.loop-item.item-index c.item-item.result c.loop-item-test.true c.item-item.is) in
    subst (λ ys. AreParts p ys c.push_item.new.parts) (sym (placed_more s c.args.items.now c.loop-item.item-index c.item-item.result c.loop-item-test.true c.item-item.is p before))
    (c.in_ok-push_item.ensures p s (before ++ placed s (take c.loop-item.item-index c.args.items.now)) tables at one known)

pub returns : goal.returns
returns c = λ p s before tables at ready are.
    let whole : take c.loop-item.item-index c.args.items.now ≡ c.args.items.now = take_whole c.args.items.now c.loop-item.item-index (omega (arith, c.loop-item-test.false)) in
    subst (λ xs. AreParts p (before ++ placed s xs) c.loop-item.parts) whole (c.loop-item.invariant p s before tables at ready are)
