-- A lasso with one more state in front.
use Rattle.std.proofs.Common.{◌≡◌, inl, inr, ℕ, zero, suc, ◌%◌, [], ◌∷◌, length, get_or, sym, ◌∙◌, ap, subst, arith, add-one}
use Rattle.std.proofs.lemmas.Bool.{cases_lt}
use Rattle.kripke_model.specs.System.{System, State}
use Rattle.kripke_model.specs.Step.{IsState, Step}
use Rattle.kripke_model.specs.Path.{Lasso, at}
use Rattle.path_laws.specs.Fairness.{IsFairOver}
use Rattle.kripke_model.proofs.Lassos.{at_stem, at_cycle, all_states, all_steps}

abbrev pub after_state : State → Lasso → Lasso
after_state s p = record { stem = s ∷ p.stem; cycle = p.cycle }

pub at_first : (s : State) (p : Lasso) → at (after_state s p) 0 ≡ s
at_first s p = at_stem (after_state s p) 0 (omega arith)

pub at_later : (s : State) (p : Lasso) (n : ℕ) → at (after_state s p) (suc n) ≡ at p n
at_later s p n = elim (cases_lt n (length p.stem)) [
  | inl l ↦ at_stem (after_state s p) (suc n) (omega arith) ∙ sym (at_stem p n l)
  | inr g ↦ at_cycle (after_state s p) (suc n) (omega arith) ∙ ap (λ i. get_or p.cycle (i % length p.cycle) []) (omega arith) ∙ sym (at_cycle p n g)
]

pub fair_after : (m : System) (n : ℕ) (C : ℕ → State → Type 0) (s : State) (p : Lasso) → IsState m s → Step m s (at p 0) → IsFairOver m n C p → IsFairOver m n C (after_state s p)
fair_after m n C s p is_state step fair = record {
  path = record {
    loops = fair.path.loops;
    states = λ n _. states n;
    steps = λ n _. subst (λ k. Step m (at (after_state s p) n) (at (after_state s p) k)) (sym (add-one n)) (steps n);
  };
  met = fair.met;
}
  where
    states : (n : ℕ) → IsState m (at (after_state s p) n)
    states zero = subst (λ t. IsState m t) (sym (at_first s p)) is_state
    states (suc n) = subst (λ t. IsState m t) (sym (at_later s p n)) (all_states fair.path n)

    steps : (n : ℕ) → Step m (at (after_state s p) n) (at (after_state s p) (suc n))
    steps zero = rw (at_first s p, at_later s p 0) step
    steps (suc n) = rw (at_later s p n, at_later s p (suc n)) (subst (λ k. Step m (at p n) (at p k)) (add-one n) (all_steps fair.path n))
