use Rattle.std.proofs.Common.{◌≡◌, ◌∷◌, ◌++◌, ◌+◌, [], sym, ◌∙◌, ap, subst, length, List, Some, true, false, inl, inr, Bool}
use Rattle.smv_names.specs.declared.states.Parameter.{Parameter}
use Rattle.smv_names.specs.declared.states.State.TheVariants as state
use Rattle.smv_names.specs.declared.states.States.{States}
use Rattle.smv_names.specs.Passed.{AreLost, IsOpen, Steps, state_at}
use Rattle.smv_names.proofs.StateLemmas.{on_ok_both, entered, all_lost, given_up}
use Rattle.smv_names.proofs.deciding.wait_for.Goals as goal

-- what isn't known yet and was seen waits
waiting : (states : States) (at : Parameter) (b : Bool) → IsOpen states at → (state_at states at ≡ Some state.Unseen → b ≡ true) → b ≡ false → state_at states at ≡ Some state.Waiting
waiting states at b (inl unseen) seen no_more = absurd (let clash : true ≡ false = sym (seen unseen) ∙ no_more in cc)
waiting states at b (inr waits) seen no_more = waits

pub returns-then-is_unseen : goal.returns-then-is_unseen
returns-then-is_unseen c p keeps waits =
    let stack : c.push.new.self.items ≡ c.args.stack.now.items ++ (c.args.top ∷ []) = c.in_ok-push.ensures.items in
    on_ok_both c.enter.result
    (λ sets added. subst (λ (xs : List Parameter). Steps p c.args.states.now c.enter.new.states (length c.args.stack.now.items + 1) xs) (sym (added ∙ ap (λ (xs : List Parameter). xs ++ (c.args.next ∷ [])) stack))
    (entered p c.args.states.now c.enter.new.states c.args.stack.now.items c.args.top c.args.next keeps waits (c.is_unseen.ensures.0 c.if-is_unseen.true) sets))
    c.enter.ensures.states c.enter.ensures.stack

pub give_up-requires : goal.give_up-requires
give_up-requires c =
    let stack : c.push.new.self.items ≡ c.args.stack.now.items ++ (c.args.top ∷ []) = c.in_ok-push.ensures.items in
    let waits = waiting c.args.states.now c.args.next c.is_unseen.result c.requires.2 c.is_unseen.ensures.1 c.if-is_unseen.false in
    (c.requires.0, subst (λ (xs : List Parameter). AreLost c.requires.0 c.args.states.now xs) (sym stack) (all_lost c.requires.0 c.args.states.now c.args.states.now c.args.stack.now.items c.args.top c.args.next c.requires.1 c.requires.3 waits))

pub returns : goal.returns
returns c p keeps waits =
    let stack : c.push.new.self.items ≡ c.args.stack.now.items ++ (c.args.top ∷ []) = c.in_ok-push.ensures.items in
    let held = waiting c.args.states.now c.args.next c.is_unseen.result c.requires.2 c.is_unseen.ensures.1 c.if-is_unseen.false in
    let lost = subst (λ (xs : List Parameter). AreLost p c.args.states.now xs) (sym stack) (all_lost p c.args.states.now c.args.states.now c.args.stack.now.items c.args.top c.args.next keeps waits held) in
    subst (λ (xs : List Parameter). Steps p c.args.states.now c.give_up.new.states (length c.args.stack.now.items + 1) xs) (sym c.give_up.ensures.empty)
    (given_up p c.args.states.now c.give_up.new.states (length c.args.stack.now.items) (c.give_up.ensures.settles p lost) c.give_up.ensures.count)
