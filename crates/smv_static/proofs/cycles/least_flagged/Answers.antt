use Rattle.std.proofs.Common.{◌≡◌, ℕ, List, get_or, sym, ◌∙◌, subst, arith}
use Rattle.std.proofs.lemmas.List.{get_or_default}
use Rattle.kripke_model.specs.System.{Assignment}
use Rattle.smv_static.specs.Sides.{IsFlagged}
use Rattle.smv_static.specs.Circles.{HoldsOf}
use Rattle.smv_static.proofs.NumberLemmas.{member_at}
use Rattle.smv_static.proofs.LeastLemmas.{step_at_most, step_holds, step_none}
use Rattle.smv_static.proofs.cycles.least_flagged.Goals as goal

pub loop-place-preserved : goal.loop-place-preserved
loop-place-preserved c =
    let inv = c.loop-place.invariant in
    let C : Assignment → Type 0 = IsFlagged c.args.flags.now in
    let assigns : List Assignment = c.args.assigns.now in
    let places : List ℕ = c.args.places.now in
    let i : ℕ = c.loop-place.place-index in
    let k : ℕ = get_or places i 0 in
    let item : Assignment = c.index-assigns-k.result in
    let at = λ (d : Assignment). get_or_default assigns k d item (c.requires i 0 c.loop-place-test.true) ∙ sym c.index-assigns-k.is in
    let step = c.lesser-least.ensures in
    record {
      at_most = step_at_most C assigns places c.args.bound c.loop-place.least k c.lesser-least.result item at step inv.at_most;
      holds = step_holds C assigns places c.args.bound c.loop-place.least k c.lesser-least.result item at step (member_at places i 0 c.loop-place-test.true) inv.holds;
      none = step_none C assigns places c.args.bound c.loop-place.least k c.lesser-least.result item at step i (λ j. k) inv.none;
    }

pub returns : goal.returns
returns c =
    let inv = c.loop-place.invariant in
    let C : Assignment → Type 0 = IsFlagged c.args.flags.now in
    let assigns : List Assignment = c.args.assigns.now in
    let places : List ℕ = c.args.places.now in
    record {
      at_most = inv.at_most;
      holds = inv.holds;
      none = λ k place less.
          let same : get_or places place.0 0 ≡ k = get_or_default places place.0 0 k place.1 ∙ place.2 in
          subst (λ (z : ℕ). HoldsOf (λ a. C a → ⊥) assigns z) same (inv.none place.0 (omega (arith, place.1, c.loop-place-test.false)) (omega (arith, same, less)));
    }
