use Rattle.std.proofs.Common.{◌≡◌, ◌≤◌, ◌∷◌, ◌++◌, [], refl, subst, arith, length, List, None}
use Rattle.smv_names.specs.declared.states.Parameter.{Parameter}
use Rattle.smv_names.specs.declared.states.State.TheVariants as state
use Rattle.smv_names.specs.Passed.{AreLost, unseen_count}
use Rattle.smv_names.proofs.StateLemmas.{lost_less, count_less, keeps_more, set_keeps, end_get}
use Rattle.smv_names.proofs.deciding.give_up.Goals as goal

pub loop-at-preserved : goal.loop-at-preserved
loop-at-preserved c =
    let popped : c.loop-at.stack.items ≡ c.pop.new.self.items ++ (c.in-Some.at ∷ []) = c.in-Some.ensures.items in
    let lost = subst (λ (xs : List Parameter). AreLost c.requires.0 c.loop-at.states xs) popped (c.loop-at.invariant.0 c.requires.0 c.requires.1) in
    let was = lost.held.inside (length c.pop.new.self.items) c.in-Some.at (end_get c.pop.new.self.items c.in-Some.at) in
    let count : unseen_count c.set.new.self ≤ unseen_count c.loop-at.states = count_less c.requires.0 c.loop-at.states c.set.new.self c.in-Some.at None was.0 c.set.ensures was.1 in (
      λ p known. lost_less p c.loop-at.states c.set.new.self c.pop.new.self.items c.in-Some.at (subst (λ (xs : List Parameter). AreLost p c.loop-at.states xs) popped (c.loop-at.invariant.0 p known)) c.set.ensures,
      keeps_more c.args.states.now c.loop-at.states c.set.new.self c.loop-at.invariant.1 (set_keeps c.loop-at.states c.set.new.self c.in-Some.at (state.Decided None) c.set.ensures refl),
      omega (arith, count, c.loop-at.invariant.2),
    )
