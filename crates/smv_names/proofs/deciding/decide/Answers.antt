use Rattle.std.proofs.Common.{◌≡◌, ◌<◌, ◌+◌, ◌*◌, ◌∷◌, ◌++◌, [], refl, sym, ◌∙◌, ap, subst, arith, length, length-append, List, Some, vec_len}
use Rattle.smv_instances.specs.Program.{Program}
use Rattle.smv_names.specs.declared.nodes.Nodes.{Nodes}
use Rattle.smv_names.specs.declared.states.Parameter.{Parameter}
use Rattle.smv_names.specs.declared.states.State.TheVariants as state
use Rattle.smv_names.specs.Nodes.{AreNodes}
use Rattle.smv_names.specs.Passed.{KeepsStack, unseen_count}
use Rattle.smv_names.specs.Ready.{AreStarted}
use Rattle.smv_names.proofs.StateLemmas.{begun, keeps_more, set_keeps, held_empty}
use Rattle.smv_names.proofs.deciding.decide.Goals as goal

pub loop-top-init : goal.loop-top-init
loop-top-init c = (
  λ p started. subst (λ (xs : List Parameter). KeepsStack p c.enter.new.states xs) (sym (c.in_ok-enter.ensures.stack ∙ ap (λ (xs : List Parameter). xs ++ (c.args.at ∷ [])) c.new-stack.ensures.items))
      (begun p c.args.targets.now.states c.enter.new.states c.args.at c.requires.unseen started.states_are c.requires.idle c.in_ok-enter.ensures.states),
  set_keeps c.args.targets.now.states c.enter.new.states c.args.at state.Waiting c.in_ok-enter.ensures.states refl,
  refl,
  λ is. let clash : Some state.Waiting ≡ Some state.Unseen = sym c.in_ok-enter.ensures.states.it ∙ is in cc,
)

module _ (c : goal.After-stack-in-Some-1) where
  pub started_now : (p : Program) → AreStarted p c.args.instances.now c.args.targets.now → AreStarted p c.args.instances.now c.loop-top.targets
  started_now p started = record {
    instances_are = started.instances_are;
    nodes_are = subst (λ (n : Nodes). AreNodes p n) (sym c.loop-top.invariant.2) started.nodes_are;
    states_are = (c.loop-top.invariant.0 p started).known;
  }

  pub stack_now : (p : Program) → AreStarted p c.args.instances.now c.args.targets.now → KeepsStack p c.loop-top.targets.states (c.pop.new.self.items ++ (c.in-Some.top ∷ []))
  stack_now p started = subst (λ (xs : List Parameter). KeepsStack p c.loop-top.targets.states xs) c.in-Some.ensures.items (c.loop-top.invariant.0 p started)

pub step-requires : goal.step-requires
step-requires c = (c.requires.started.0, started_now c c.requires.started.0 c.requires.started.1, stack_now c c.requires.started.0 c.requires.started.1)

pub loop-top-smaller : goal.loop-top-smaller
loop-top-smaller c =
    let steps = c.in_ok-step.ensures.steps c.requires.started.0 (started_now c.before.before.before c.requires.started.0 c.requires.started.1) (stack_now c.before.before.before c.requires.started.0 c.requires.started.1) in
    let popped : c.loop-top.stack.items ≡ c.pop.new.self.items ++ (c.in-Some.top ∷ []) = c.in-Some.ensures.items in
    let size : length c.loop-top.stack.items ≡ length c.pop.new.self.items + 1 = ap (λ (xs : List Parameter). length xs) popped ∙ length-append c.pop.new.self.items (c.in-Some.top ∷ []) in
    let less : 2 * unseen_count c.step.new.targets.states + length c.step.new.stack.items < 2 * unseen_count c.loop-top.targets.states + length c.loop-top.stack.items = omega (arith, steps.work, size) in
    less

pub loop-top-preserved : goal.loop-top-preserved
loop-top-preserved c =
    let steps = λ (p : Program) (started : AreStarted p c.args.instances.now c.args.targets.now). c.in_ok-step.ensures.steps p (started_now c.before.before.before p started) (stack_now c.before.before.before p started) in
    let here = steps c.requires.started.0 c.requires.started.1 in (
      λ p started. (steps p started).stack,
      keeps_more c.args.targets.now.states c.loop-top.targets.states c.step.new.targets.states c.loop-top.invariant.1 here.keeps,
      c.in_ok-step.ensures.nodes ∙ c.loop-top.invariant.2,
      λ is. c.loop-top.invariant.3 (here.keeps.seen c.args.at is),
    )

pub returns-in_err-step-clause-nodes : goal.returns-in_err-step-clause-nodes
returns-in_err-step-clause-nodes c = c.step.ensures.nodes ∙ c.loop-top.invariant.2

pub returns-clause-settles : goal.returns-clause-settles
returns-clause-settles c p started =
    let none : vec_len c.loop-top.stack ≡ 0 = c.in_default.ensures.cases.0 in
    let keeps = c.loop-top.invariant.0 p started in
    record {
      known = keeps.known;
      idle = held_empty c.loop-top.targets.states c.loop-top.stack.items (omega arith) keeps.held;
      keeps = c.loop-top.invariant.1;
    }

pub returns-clause-seen : goal.returns-clause-seen
returns-clause-seen c = c.loop-top.invariant.3

pub returns-clause-nodes : goal.returns-clause-nodes
returns-clause-nodes c = c.loop-top.invariant.2
