-- The backward reach of the violations of an expression decides the invariant.
use Rattle.std.proofs.Common.{inl, inr, ℕ, zero, suc, ◌-◌, length, sym, ◌∙◌, subst, arith, add-one}
use Rattle.kripke_model.specs.Term.{Term}
use Rattle.kripke_model.specs.System.{System, State}
use Rattle.kripke_model.specs.Evaluation.{Holds}
use Rattle.kripke_model.specs.Step.{IsState, Step}
use Rattle.kripke_model.specs.Path.{Lasso, at, IsPath}
use Rattle.kripke_model.specs.Truth.{Sat}
use Rattle.kripke_model.proofs.Lassos.{all_states, all_steps}
use Rattle.path_laws.specs.StateSet.{StateSet, ◌∈◌}
use Rattle.path_laws.specs.Reach.{IsBackwardReach}
use Rattle.path_laws.specs.Invariant.{invariant, Violates}
use Rattle.path_laws.specs.Laws.{RunsExtend, InvariantExact, InvariantDecided}
use Rattle.path_laws.proofs.HoldsLemmas.{holds_or_not}

module _ (m : System) (e : Term) (B : StateSet) (reach : IsBackwardReach m (Violates m e) B) where
  -- a path that begins outside of the set stays outside
  stays_outside : (p : Lasso) → IsPath m p → (at p 0 ∈ B → ⊥) → (n : ℕ) → at p n ∈ B → ⊥
  stays_outside p path out zero = out
  stays_outside p path out (suc n) = λ h. stays_outside p path out n
      (reach.before (at p n) (at p (suc n)) (all_states path n) (all_states path (suc n)) (subst (λ k. Step m (at p n) (at p k)) (add-one n) (all_steps path n)) h)

  -- of any model, fair or not, live or not
  pub true_outside : (s : State) → (s ∈ B → ⊥) → Sat m (invariant e) s
  true_outside s out p fair starts n = elim (holds_or_not m e (at p n) (at p n)) [
    | inl holds ↦ holds
    | inr fails ↦ absurd (stays_outside p fair.path (subst (λ t. t ∈ B → ⊥) (sym starts) out) n (reach.goal (at p n) (all_states fair.path n) fails))
  ]

  pub false_inside : RunsExtend m → (s : State) → IsState m s → s ∈ B → Sat m (invariant e) s → ⊥
  false_inside extend s is_state inside sat =
      let (run, is_run, starts, fails) = reach.reaches s is_state inside in
      let (p, fair, agrees) = extend run is_run in
      let last : ℕ = length run - 1 in
      fails (subst (λ t. Holds m e t t) (agrees last (omega (arith, is_run.begins))) (sat p fair (agrees 0 is_run.begins ∙ starts) last))

pub invariant_exact : (m : System) → RunsExtend m → InvariantExact m
invariant_exact m extend e B reach s is_state = (false_inside m e B reach extend s is_state, true_outside m e B reach s)

pub invariant_decided : (m : System) → RunsExtend m → InvariantDecided m
invariant_decided m extend e B reach = (
  λ out s is_state initial. true_outside m e B reach s (out s is_state initial),
  λ s is_state initial inside all. false_inside m e B reach extend s is_state inside (all s is_state initial),
)
